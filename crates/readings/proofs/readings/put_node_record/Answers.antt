-- `readings::put_node_record` meets its contract.
-- The node's start and end are read first.
use Rattle.readings.proofs.readings.put_node_record.Goals as goal

pub returns : goal.returns
returns c =
    rw (← c.node_word.ensures, ← c.node_word-2.ensures)
    c.put_record.ensures
