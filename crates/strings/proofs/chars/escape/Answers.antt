-- `chars::escape` reads what follows a backslash as the machine does.
-- One way out for each byte of the grammar's table, one for `u`, and one for all others.
use native.Mathlib.Omega.{arith}
use mathlib.Core.Path.{refl, ◌∙◌}
use Rattle.grammar.specs.MessageText.Escape.{quotation_mark, reverse_solidus, solidus, backspace, form_feed, line_feed, carriage_return, tab}
use Rattle.grammar.specs.Serving.Machine.Message.{message}
use Rattle.strings.proofs.CharRuns.{at-end}
use Rattle.strings.proofs.MessageChars.{escape_u, escape-char, escape-other}
use Rattle.strings.proofs.chars.escape.Goals as goal

pub returns-then-s-i : goal.returns-then-s-i
returns-then-s-i c = at-end message _ _ _ c.if-s-i.true

pub returns-in-117 : goal.returns-in-117
returns-in-117 c = c.hex_escape.ensures ∙ escape_u _ _ c.if-s-i.false c.in-117.is

pub returns-in-34 : goal.returns-in-34
returns-in-34 c = escape-char _ _ c.if-s-i.false quotation_mark c.in-34.is

pub returns-in-92 : goal.returns-in-92
returns-in-92 c = escape-char _ _ c.if-s-i.false reverse_solidus c.in-92.is

pub returns-in-47 : goal.returns-in-47
returns-in-47 c = escape-char _ _ c.if-s-i.false solidus c.in-47.is

pub returns-in-98 : goal.returns-in-98
returns-in-98 c = escape-char _ _ c.if-s-i.false backspace c.in-98.is

pub returns-in-102 : goal.returns-in-102
returns-in-102 c = escape-char _ _ c.if-s-i.false form_feed c.in-102.is

pub returns-in-110 : goal.returns-in-110
returns-in-110 c = escape-char _ _ c.if-s-i.false line_feed c.in-110.is

pub returns-in-114 : goal.returns-in-114
returns-in-114 c = escape-char _ _ c.if-s-i.false carriage_return c.in-114.is

pub returns-in-116 : goal.returns-in-116
returns-in-116 c = escape-char _ _ c.if-s-i.false tab c.in-116.is

pub returns-in_default : goal.returns-in_default
returns-in_default c =
    escape-other _ _ c.if-s-i.false refl (omega arith) (omega arith) (omega arith) (omega arith) (omega arith) (omega arith)
    (omega arith) (omega arith) (omega arith)
