use mathlib.Core.Path.{refl}
use lib.ListN.{length}
use Rattle.message.proofs.AnswerLaws.{refused}
use Rattle.message.proofs.StageLaws.{text-refused, value_read, refuses, asks_in}
use Rattle.message.proofs.check.answer_in.Goals as goal

pub returns-in-Err : goal.returns-in-Err
returns-in-Err c = refused (text-refused c.read_text-found.ensures c.in-Err.is c.args.schema.now c.args.rows.now (length c.args.records.now)) refl

pub read_asked-requires : goal.read_asked-requires
read_asked-requires c = asks_in c.requires.0 (value_read c.read_text-found.ensures c.in_default.is) c.ask_command.ensures c.in-Asks.is

pub returns-in-Refuses : goal.returns-in-Refuses
returns-in-Refuses c = refused (refuses c.requires.0 (value_read c.read_text-found.ensures c.in_default.is) c.ask_command.ensures c.in-Refuses.is (length c.args.records.now)) refl
