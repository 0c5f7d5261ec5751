-- `references::resolve` puts what every word names, and then the discriminators.
use native.Mathlib.Omega.{arith}
use Rattle.references.proofs.Resolution.{resolves}
use Rattle.references.proofs.resolve.Goals as goal

pub returns : goal.returns
returns c = resolves (omega arith) c.resolve_rows-all.ensures.0 c.resolve_rows-all.ensures.1 c.put_discriminators.ensures
