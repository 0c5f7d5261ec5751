-- `table::names::good_name` says whether a name is good.
-- Each test refutes one part of what a good name is; the rest is its bytes.
use native.Mathlib.Omega.{arith}
use mathlib.Core.Path.{ap, ◌∙◌}
use lib.ListN.{drop, length-drop}
use lib.Seq.{take_all}
use Rattle.grammar.specs.Notation.{all}
use Rattle.rules.specs.Names.{name_byte}
use Rattle.rows.proofs.Walks.{so}
use Rattle.rows.proofs.NameFacts.{no_name, name-long, name_start, name-reserved, name-rest}
use Rattle.rows.proofs.names.good_name.Goals as goal

pub returns-then-n-eq0 : goal.returns-then-n-eq0
returns-then-n-eq0 c = let a = c.args in no_name a.digits a.name.now c.if-n-eq0.true

pub returns-then-n-gt-NAME_BYTES : goal.returns-then-n-gt-NAME_BYTES
returns-then-n-gt-NAME_BYTES c = let a = c.args in name-long a.digits a.name.now c.if-n-eq0.false c.if-n-gt-NAME_BYTES.true

pub returns-then-not-good_start : goal.returns-then-not-good_start
returns-then-not-good_start c = let a = c.args in name_start a.digits a.name.now c.if-n-eq0.false (so c.good_start.ensures c.if-not-good_start.true)

pub returns-then-is_reserved : goal.returns-then-is_reserved
returns-then-is_reserved c = let a = c.args in name-reserved a.digits a.name.now c.if-n-eq0.false (so c.is_reserved.ensures c.if-is_reserved.true)

pub returns : goal.returns
returns c =
    let a = c.args in
    c.name_bytes.ensures ∙ ap (all name_byte) (take_all _ (drop 1 a.name.now) (omega (arith, length-drop 1 a.name.now))) ∙ name-rest a.digits a.name.now c.if-n-eq0.false c.if-n-gt-NAME_BYTES.false
    (so c.good_start.ensures c.if-not-good_start.false) (so c.is_reserved.ensures c.if-is_reserved.false)
