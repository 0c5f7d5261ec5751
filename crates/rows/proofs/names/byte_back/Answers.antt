-- `names::byte_back` gives a byte counted from the end.
use Prim.Native.Nat.{◌-◌}
use mathlib.Core.Path.{◌≡◌, sym, ap}
use native.Mathlib.Omega.{arith}
use lib.ListN.{length, get_or, get_or-eq_default}
use Rattle.rows.proofs.names.byte_back.Goals as goal

pub returns-then-n-eq0 : goal.returns-then-n-eq0
returns-then-n-eq0 c = let a = c.args in let x = a.name.now in sym (get_or-eq_default x 0 {n = length x - a.k} (omega arith))

pub returns-then-k-eq0 : goal.returns-then-k-eq0
returns-then-k-eq0 c = let a = c.args in let x = a.name.now in sym (get_or-eq_default x 0 {n = length x - a.k} (omega arith))

pub returns-then-n-k : goal.returns-then-n-k
returns-then-n-k c =
    let a = c.args in
    let x = a.name.now in
    let e : 0 ≡ length x - a.k = omega arith in
    ap (λ i. get_or x i 0) e
