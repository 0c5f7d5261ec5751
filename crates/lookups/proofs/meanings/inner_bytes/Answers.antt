-- `meanings::inner_bytes` meets its contract: the words of the node say where the token stands.
use mathlib.Core.Path.{refl}
use native.Mathlib.Omega.{arith}
use Rattle.lookups.proofs.TokenLaws.{token-bytes}
use Rattle.lookups.proofs.meanings.inner_bytes.Goals as goal

pub returns : goal.returns
returns c = token-bytes c.node_number-a.ensures c.node_number-e.ensures refl (omega arith) c.part_of.ensures
