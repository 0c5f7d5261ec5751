-- `index::put_child` meets its contract: two stores, the link before the head.
use lib.ListN.{get_or, set, length-set}
use Rattle.buckets.specs.Buckets.{buckets}
use mathlib.Core.Path.{ap₂}
use native.Mathlib.Numerals.{add-one}
use Prim.Native.Nat.{ℕ, ◌+◌}
use native.Mathlib.Omega.{arith}
use Rattle.children.proofs.index.put_child.Goals as goal

pub bounds-index-h-2 : goal.bounds-index-h-2
bounds-index-h-2 c = simp length-set (omega (arith, c.bucket_of-h.ensures))

pub returns : goal.returns
returns c =
    record { stored = ap₂ (λ (h x : ℕ). set (set c.args.index.now (buckets + c.args.c) (get_or c.args.index.now h 0)) h x) c.bucket_of-h.ensures (add-one c.args.c) }
