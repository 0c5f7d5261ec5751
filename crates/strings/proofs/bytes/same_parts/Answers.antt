-- `bytes::same_parts` compares two parts as slices.
use native.Mathlib.Omega.{arith}
use Prim.Native.Nat.{◌+◌, ◌-◌}
use mathlib.Core.Path.{◌≡◌}
use Rattle.strings.specs.Bytes.{same_parts}
use Rattle.strings.proofs.bytes.same_parts.Goals as goal

pub returns : goal.returns
unfolding same_parts
returns c =
    let p : c.args.i + c.args.n - c.args.i ≡ c.args.n = omega arith in
    let q : c.args.j + c.args.n - c.args.j ≡ c.args.n = omega arith in
    rw (p, q) at c.same_bytes.ensures
