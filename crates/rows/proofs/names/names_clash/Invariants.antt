-- The places from the loop's on decide.
use Rattle.std.proofs.Common.{◌≡◌, eqb, get_or}
use Rattle.rules.specs.Names.{c_byte, clash}
use Rattle.rows.proofs.Walks.{up_to}
use Rattle.rows.proofs.names.names_clash.Given as goal

abbrev pub invariant-loop-i : goal.invariant-loop-i
invariant-loop-i l = clash l.x l.y ≡ up_to (λ k. eqb (c_byte (get_or l.x k 0)) (c_byte (get_or l.y k 0))) l.i l.i-end
