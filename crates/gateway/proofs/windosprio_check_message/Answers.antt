-- `windosprio_check_message` meets its contract: the call, in numbers.
use Rattle.gateway.proofs.Outcomes.{checked}
use Rattle.gateway.proofs.windosprio_check_message.Goals as goal

pub returns : goal.returns
returns c = checked c.check_message-a.ensures c.message_number.ensures c.message_row.ensures c.message_records.ensures c.message_place.ensures
