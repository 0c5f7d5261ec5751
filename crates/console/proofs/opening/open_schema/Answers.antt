-- the call's outcome, its line, and what follows
use Rattle.console.proofs.BeginningLaws.{opens_schema}
use Rattle.console.proofs.opening.open_schema.Goals as goal

pub returns : goal.returns
returns g c = opens_schema c.args.style c.requires.0 c.compile_schema-answer.ensures c.put_schema_answer.ensures c.table_words.ensures
