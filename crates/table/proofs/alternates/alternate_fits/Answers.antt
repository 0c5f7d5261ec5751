-- A law for each return: no alternative, kinds that do not fit, or what the types say.
use Rattle.table.proofs.AlternateLaws.{alternate_empty, alternate-same_kinds, alternate-is}
use Rattle.table.proofs.alternates.alternate_fits.Goals as goal

pub returns-then-word-eq0 : goal.returns-then-word-eq0
returns-then-word-eq0 c = record { is = alternate_empty c.args.schema.now c.args.rows.now c.args.r c.word.ensures c.if-word-eq0.true; looked = c.requires.1 }

pub returns-in_default : goal.returns-in_default
returns-in_default c = record { is = alternate-same_kinds c.args.schema.now c.args.rows.now c.args.r c.word.ensures c.if-word-eq0.false c.in_default.ensures; looked = c.requires.1 }

pub returns : goal.returns
returns c = record { is = alternate-is c.args.schema.now c.args.rows.now c.args.r c.word.ensures c.if-word-eq0.false c.in-Some.ensures c.types_apart.ensures.is; looked = c.types_apart.ensures.looked }
