-- Loops over rows: `all f` of the rows from b up to e, and what is asked of a walk, by what is left of it at each turn.
-- What is left stands in a record, so that a need names neither the test nor the rows; each law unfolds one row.
use Prim.Native.Nat.{ℕ, suc, ◌+◌, ◌-◌, ◌≤◌, ◌<◌}
use mathlib.Core.Path.{◌≡◌, refl, sym, ap, ◌∙◌}
use mathlib.Core.Bool.{Bool, true, false, not, ◌||◌}
use mathlib.Core.List.{List, [], ◌∷◌}
use native.Mathlib.Omega.{arith}
use lib.Dec.{eqb}
use borrow.Author.Tests.{eq-eqb, ne_eqb}
use Rattle.grammar.specs.Notation.{all}
use Rattle.rules.specs.Rows.{up_from, row_count, kind, next, walk, past}
use Rattle.rules.specs.Rules.{every_row}
use Rattle.rules.proofs.TableRows.{next-above, walk_none, walk_more, past-none, past_more, past-above}
use Rattle.rows.specs.Rows.{Follows, Room}
use Rattle.rows.proofs.Walks.{up_from-end, up_from-on}

-- whatever a list is asked, the rows from b up to e are asked it
pub rows_start : {A : Type 0} (g : List ℕ → A) (b n e : ℕ) → e ≡ b + n → g (up_from b n) ≡ g (up_from b (e - b))
rows_start g b n e p = let k : n ≡ e - b = omega arith in ap (λ (m : ℕ). g (up_from b m)) k

-- `whole` is true where f holds of every row from b up to e
pub record AllLeft (whole : Bool) (f : ℕ → Bool) (b e : ℕ) : Type 0 where
  pub left : whole ≡ all f (up_from b (e - b))

pub every-starts : (T : List ℕ) (f : ℕ → Bool) {whole : Bool} → whole ≡ every_row T f → AllLeft whole f 0 (row_count T)
every-starts T f h = record { left = h ∙ rows_start (all f) 0 (row_count T) (row_count T) (omega arith) }

module _ {whole : Bool} {f : ℕ → Bool} {b e : ℕ} (l : AllLeft whole f b e) where
  pub all-fails : b < e → f b ≡ false → false ≡ whole
  all-fails h q = sym (l.left ∙ rw (up_from-on b e h, q))

  pub all-on : b < e → f b ≡ true → AllLeft whole f (b + 1) e
  all-on h q = record { left = l.left ∙ rw (up_from-on b e h, q) }

  pub all-ends : e ≤ b → true ≡ whole
  all-ends h = sym (l.left ∙ rw (up_from-end b e h))

-- `whole` is true where `fits` holds of every row of kind k from b up to e
abbrev pub of_kind : List ℕ → ℕ → (ℕ → Bool) → ℕ → Bool
of_kind T k fits r = not (eqb (kind T r) k) || fits r

pub record KindLeft (whole : Bool) (T : List ℕ) (k : ℕ) (fits : ℕ → Bool) (b e : ℕ) : Type 0 where
  pub rows : AllLeft whole (of_kind T k fits) b e

pub kind-starts : (T : List ℕ) (k : ℕ) (fits : ℕ → Bool) {whole : Bool} → whole ≡ every_row T (of_kind T k fits) → KindLeft whole T k fits 0 (row_count T)
kind-starts T k fits h = record { rows = every-starts T (of_kind T k fits) h }

module _ {whole : Bool} {T : List ℕ} {k : ℕ} {fits : ℕ → Bool} {b e : ℕ} (l : KindLeft whole T k fits b e) where
  pub kind-ends : e ≤ b → true ≡ whole
  kind-ends h = all-ends l.rows h

  module _ (h : b < e) {w : ℕ} (p : w ≡ kind T b) where
    pub kind-fails : w ≡ k → fits b ≡ false → false ≡ whole
    kind-fails q t = all-fails l.rows h (rw (← p, eq-eqb w k q) t)

    pub kind-on : w ≡ k → fits b ≡ true → KindLeft whole T k fits (b + 1) e
    kind-on q t = record { rows = all-on l.rows h (rw (← p, eq-eqb w k q) t) }

    pub kind-other : (w ≡ k → ⊥) → KindLeft whole T k fits (b + 1) e
    kind-other n = record { rows = all-on l.rows h (rw (← p, ne_eqb w k n)) }

-- A walk from row to row: `whole` is what g says of the n rows from c on.
pub record WalkLeft {A : Type 0} (g : List ℕ → A) (T : List ℕ) (whole : A) (c n : ℕ) : Type 0 where
  pub left : whole ≡ g (walk T c n)

pub walk_at : (T : List ℕ) {c c' n : ℕ} → 0 < n → c' ≡ next T c → walk T c n ≡ c ∷ walk T c' (n - 1)
walk_at T {c} {c'} {n} h p = let k : n ≡ suc (n - 1) = omega arith in ap (walk T c) k ∙ walk_more T c (n - 1) ∙ ap (λ (b : ℕ). c ∷ walk T b (n - 1)) (sym p)

pub walk-over : (T : List ℕ) (c : ℕ) {n : ℕ} → n ≤ 0 → walk T c n ≡ []
walk-over T c {n} h = let k : n ≡ 0 = omega arith in ap (walk T c) k ∙ walk_none T c

module _ {A : Type 0} {g : List ℕ → A} {T : List ℕ} {whole : A} {c n : ℕ} (l : WalkLeft g T whole c n) where
  pub left_at : 0 < n → {c' : ℕ} → c' ≡ next T c → whole ≡ g (c ∷ walk T c' (n - 1))
  left_at h p = l.left ∙ ap g (walk_at T h p)

  pub left_hit : 0 < n → {v : A} → ((rs : List ℕ) → g (c ∷ rs) ≡ v) → v ≡ whole
  left_hit h e = sym (l.left ∙ ap g (walk_at T h refl) ∙ e _)

  pub left-on : 0 < n → {c' : ℕ} → c' ≡ next T c → ((rs : List ℕ) → g (c ∷ rs) ≡ g rs) → WalkLeft g T whole c' (n - 1)
  left-on h p e = record { left = l.left ∙ ap g (walk_at T h p) ∙ e _ }

  pub left-ends : n ≤ 0 → g [] ≡ whole
  left-ends h = sym (l.left ∙ ap g (walk-over T c h))

-- the walk from the next row on has room
pub room_next : {T : List ℕ} {c n c' : ℕ} → Room c n → 0 < n → Follows T c c' → Room c' (n - 1)
room_next w h p = record { few = omega (arith, w.few); low = omega (arith, w.low, w.few, p.low) }

-- where a walk goes on, it ends where it did
pub past_next : {T : List ℕ} {c n c' : ℕ} → 0 < n → Follows T c c' → past T c n ≡ past T c' (n - 1)
past_next {T} {c} {n} {c'} h p = let k : n ≡ suc (n - 1) = omega arith in ap (past T c) k ∙ past_more T c (n - 1) ∙ ap (λ (b : ℕ). past T b (n - 1)) (sym p.is)

pub past-within : (T : List ℕ) (c n : ℕ) → 0 < n → c < past T c n
past-within T c n h = let k : n ≡ suc (n - 1) = omega arith in omega (arith, ap (past T c) k ∙ past_more T c (n - 1), next-above T c, past-above T (n - 1) (next T c))

pub past-over : (T : List ℕ) (c : ℕ) {n : ℕ} → n ≤ 0 → past T c n ≡ c
past-over T c {n} h = let k : n ≡ 0 = omega arith in ap (past T c) k ∙ past-none T c
