use Prim.Native.Nat.{◌/◌}
use native.Mathlib.Omega.{arith}
use Rattle.stream.specs.Serving.States.{brackets_of}
use Rattle.stream.proofs.Nests.{innermost}
use Rattle.stream.proofs.brackets.Brackets.in_object.Goals as goal

pub returns : goal.returns
returns c =
    let a = c.args.self.«open».some_open in
    let b = c.args.self.«open».levels in
    record { outer = brackets_of (c.args.self.bits / 2); same = innermost c.args.self.bits a (omega arith) }
