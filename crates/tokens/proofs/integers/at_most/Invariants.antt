-- `integers::at_most` meets its contract: the value of the digits, of any number of them, is at most the bound.
-- The invariant: the value so far is within the bound, and from it the rest gives the whole; `tenth` says when ten times it is not.
use Prim.Native.Nat.{◌+◌, ◌*◌, ◌≤◌, ◌<◌}
use Rattle.tokens.proofs.IntegerValues.{Valued}
use Rattle.tokens.proofs.integers.at_most.Given as goal

abbrev pub invariant-loop-b : goal.invariant-loop-b
invariant-loop-b l = (l.tenth * 10 ≤ l.most) × (l.most < l.tenth * 10 + 10) × Valued l.digits l.most l.b-index l.value
