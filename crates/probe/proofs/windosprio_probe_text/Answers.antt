-- `windosprio_probe_text` meets its contract: the text is read in the dialect that the caller names.
use Rattle.probe.proofs.windosprio_probe_text.Goals as goal

pub returns : goal.returns
returns c =
    record {
      text = c.read_text-t.result;
      reads = rw (← c.dialect_of.ensures) c.read_text-t.ensures;
      verdict_is = c.verdict_of.ensures;
      place_is = c.place_of.ensures;
    }
