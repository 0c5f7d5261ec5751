-- `add` meets its contract: two stores, the link before the head.
use Prim.Native.Nat.{ℕ}
use native.Mathlib.Numerals.{add-one}
use mathlib.Core.Path.{ap, ap₂}
use lib.ListN.{get_or, set}
use Rattle.buckets.proofs.add.Goals as goal

pub returns : goal.returns
returns c =
    let e = c.bucket_of-h.ensures in
    let l = c.args in
    record {
      head = ap₂ (λ (h x : ℕ). set l.heads.now h x) e (add-one l.i);
      link = ap (λ (h : ℕ). set l.links.now l.i (get_or l.heads.now h 0)) e;
    }
