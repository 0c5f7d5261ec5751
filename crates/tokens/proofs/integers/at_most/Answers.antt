-- `integers::at_most` meets its contract: the value of the digits, of any number of them, is at most the bound.
-- The invariant: the value so far is within the bound, and from it the rest gives the whole; `tenth` says when ten times it is not.
use native.Mathlib.Omega.{arith}
use Rattle.tokens.proofs.IntegerValues.{value-over}
use Rattle.tokens.proofs.integers.at_most.Goals as goal

pub returns-then-tenth-value : goal.returns-then-tenth-value
returns-then-tenth-value c = value-over c.loop-b.invariant.2 (omega arith) (omega arith)

pub returns-then-most-value : goal.returns-then-most-value
returns-then-most-value c = value-over c.loop-b.invariant.2 (omega arith) (omega arith)
