use Rattle.std.proofs.Common.{◌≡◌, ℕ, suc, ◌<◌, List, length, [], ◌∷◌, Some, ap, arith}
use Rattle.std.specs.Iterator.{MakesProgress, item_count}
use Rattle.rules.specs.Rows.{walk}
use Rattle.rows.proofs.LoopLaws.{walk_at, walk-over}
use Rattle.rows.proofs.walk.WalkIterator.next.Goals as goal

goes : {s t : List ℕ} {x : ℕ} → s ≡ x ∷ t → MakesProgress {S = List ℕ} {A = ℕ} (λ _. Unit {0}) (item_count (λ rest. rest)) s (Some x) t
goes {s} {t} e =
    let p : length s ≡ suc (length t) = ap length e in
    record { on = λ _. (tt, tt, omega arith); keeps = tt; rests = λ _. tt }

pub returns-then-self-eq0-clause-steps : goal.returns-then-self-eq0-clause-steps
returns-then-self-eq0-clause-steps c =
    let e : walk c.self.inside.rows.now c.self.inside.at c.self.inside.left ≡ [] = walk-over c.self.inside.rows.now c.self.inside.at (omega arith) in
    (cc (e, c.self.view_is), cc (e, c.self.view_is))

pub returns-clause-steps : goal.returns-clause-steps
returns-clause-steps c =
    let k : 0 < c.self.inside.left = omega arith in
    let e = walk_at c.self.inside.rows.now k c.next_row-self-inside.ensures.is in
    cc (e, c.self.view_is)

pub returns-clause-goes : goal.returns-clause-goes
returns-clause-goes c = goes (returns-clause-steps c)
