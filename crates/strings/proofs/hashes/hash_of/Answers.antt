-- `hashes::hash_of` gives the hash of what a string means.
-- A plain string means its bytes.
use mathlib.Core.Path.{ap, ◌∙◌}
use Rattle.strings.specs.Hashes.{hash_of}
use Rattle.strings.proofs.HashLaws.{hash-plain}
use Rattle.strings.proofs.hashes.hash_of.Goals as goal

pub returns-then-can_stand : goal.returns-then-can_stand
returns-then-can_stand c = hash-plain c.args.dialect c.if-plain.true (c.bytes_hash.ensures ∙ ap hash_of c.inside.ensures)
