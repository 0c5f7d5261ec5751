-- `first` meets its contract: the head of the hash's bucket.
use Prim.Native.Nat.{ℕ}
use mathlib.Core.Path.{ap}
use lib.ListN.{get_or}
use Rattle.buckets.proofs.first.Goals as goal

pub returns : goal.returns
returns c = ap (λ (h : ℕ). get_or c.args.heads.now h 0) c.bucket_of.ensures
