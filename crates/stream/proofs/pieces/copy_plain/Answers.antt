-- `copy_plain` keeps the plain bytes of a string: while they are plain, each is what the call from there keeps.
-- The loop ends where the piece or the room does, whichever is first.
use Prim.Native.Nat.{◌+◌}
use native.Mathlib.Omega.{arith}
use mathlib.Core.Path.{◌≡◌, sym, ◌∙◌}
use Rattle.stream.proofs.PieceLaws.{copying_starts, copying_on}
use Rattle.stream.proofs.pieces.copy_plain.Goals as goal

pub loop-i-init : goal.loop-i-init
loop-i-init c = copying_starts _ _ _ _ _ c.requires.0 c.requires.1

pub loop-i-preserved : goal.loop-i-preserved
loop-i-preserved c = copying_on c.loop-i.invariant (omega arith) (omega arith) (sym c.is_plain.ensures ∙ c.if-not-is_plain.false)

pub returns : goal.returns
returns c = let e : c.loop-i.i ≡ c.args.from + c.min.result = omega arith in rw (← e) c.loop-i.invariant
