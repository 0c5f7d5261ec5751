-- `references::discriminators::member` walks up the chain of bases, and asks each struct's own children last.
-- The measure is the number of structs left.
use Rattle.references.proofs.DiscriminatorLaws.{walk_none, walk_out, walk-inherited, walk-own}
use mathlib.Core.Path.{◌∙◌, sym}
use Rattle.references.proofs.discriminators.+member.Goals as goal

pub returns-then-link-eq0 : goal.returns-then-link-eq0
returns-then-link-eq0 t c = walk_none c.args.s.now c.args.rows.now c.args.left c.args.link c.args.name.now c.if-link-eq0.true

pub returns-then-left-eq0 : goal.returns-then-left-eq0
returns-then-left-eq0 t c = walk_out c.args.s.now c.args.rows.now c.args.left c.args.link c.args.name.now c.if-left-eq0.true

pub returns-then-is_some : goal.returns-then-is_some
returns-then-is_some t c =
    walk-inherited c.args.s.now c.args.rows.now c.args.left c.args.link c.args.name.now c.if-link-eq0.false c.if-left-eq0.false c.word-base.ensures
    c.member-inherited.ensures (sym c.is_some.ensures ∙ c.if-is_some.true)

pub returns : goal.returns
returns t c =
    walk-own c.args.s.now c.args.rows.now c.args.left c.args.link c.args.name.now c.if-link-eq0.false c.if-left-eq0.false c.word-base.ensures
    c.member-inherited.ensures (sym c.is_some.ensures ∙ c.if-is_some.false) c.child.ensures
