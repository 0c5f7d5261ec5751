-- `hashes::c_byte_back` gives a byte counted from the end, as it is in C.
use mathlib.Core.Path.{ap, ◌∙◌}
use Rattle.rules.specs.Names.{c_byte}
use Rattle.rows.proofs.hashes.c_byte_back.Goals as goal

pub returns : goal.returns
returns c = c.c_byte.ensures ∙ ap c_byte c.byte_back.ensures
