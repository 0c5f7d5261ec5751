-- `compile::compile_schema` meets its contract: the lent words cleared, then the length.
use Rattle.schema.proofs.TextLaws.{cleared-length, cleared-zero, compiled, too_long, length-on}
use Rattle.schema.proofs.compile.compile_schema.Goals as goal

pub returns-then-schema-gt-SCHEMA_BYTES : goal.returns-then-schema-gt-SCHEMA_BYTES
returns-then-schema-gt-SCHEMA_BYTES c = compiled (cleared-length c.args.rows.now c.clear.ensures) (too_long (cleared-zero c.args.rows.now c.clear.ensures) c.if-schema-gt-SCHEMA_BYTES.true)

pub judge_text-requires : goal.judge_text-requires
judge_text-requires c = (c.if-schema-gt-SCHEMA_BYTES.false, cleared-zero c.args.rows.now c.clear.ensures)

pub returns : goal.returns
returns c = compiled (cleared-length c.args.rows.now c.clear.ensures) (length-on c.if-schema-gt-SCHEMA_BYTES.false c.judge_text.ensures)
