-- From one refusal to the next: a test that passes gives the refusal, one that fails leaves the outcome to those after it.
-- A stage begins with the refusal that its contract names; that another one is the next is told by their ranks.
use Prim.Native.Nat.{ℕ, zero, suc, ◌-◌, ◌/◌, ◌≤◌, ◌<◌}
use native.Mathlib.Omega.{arith}
use mathlib.Core.Path.{◌≡◌, refl, sym, ap, ap₂, ◌∙◌, subst}
use mathlib.Core.Bool.{Bool, true, false, not}
use mathlib.Core.List.{List, [], ◌++◌}
use lib.Dec.{ltb}
use lib.ListN.{length, drop, replicate}
use borrow.Author.Tests.{lt-ltb, le-ltb}
use Rattle.grammar.specs.Limits.{table_rows, row_words}
use Rattle.grammar.specs.Serving.Machine.Schema.{read_schema}
use Rattle.rules.specs.declared.SchemaRefusal.{SchemaRefusal}
use Rattle.rules.specs.declared.SchemaRefusal.TheVariants.{UnknownName, BadChain, TooManyRows, NoRoom}
use Rattle.rules.specs.declared.SchemaAnswer.{SchemaAnswer}
use Rattle.rules.specs.declared.SchemaAnswer.TheVariants.{Accepted, Refused}
use Rattle.rules.specs.Rows.{row_count}
use Rattle.rules.specs.Rules.{is}
use Rattle.rules.specs.SchemaTable.{table}
use Rattle.rules.specs.SchemaAnswers.{schema_order}
use Rattle.rules.specs.Serving.Answers.{rank, schema_place, schema_test}
use Rattle.rules.proofs.SchemaOutcome.{from-rank}
use Rattle.schema.specs.Stages.{objects, written, result_by, Answered, Zero, IsTable, Refers}

abbrev pub test : List ℕ → ℕ → SchemaRefusal → Bool
test S room x = schema_test S room (objects S) (written S) x

-- a test on the definitions, told of their table
of_table : {S T : List ℕ} → IsTable S T → (P : List ℕ → Bool) → is (written S) (λ d. P (table S d)) ≡ P T
of_table h P = rw (h.are, h.rows) refl

zeros-left : (n m : ℕ) → drop m (replicate {A = ℕ} n 0) ≡ replicate (n - m) 0
zeros-left zero zero = refl
zeros-left zero (suc m) = let e : zero ≡ zero - suc m = omega arith in ap (λ (i : ℕ). replicate i 0) e
zeros-left (suc n) zero = let e : suc n ≡ suc n - zero = omega arith in ap (λ (i : ℕ). replicate i 0) e
zeros-left (suc n) (suc m) = let e : n - m ≡ suc n - suc m = omega arith in zeros-left n m ∙ ap (λ (i : ℕ). replicate i 0) e

-- an unknown name is told by whether every name found its row
known : {S T : List ℕ} (room : ℕ) → IsTable S T → {found : Bool} → Refers S found → test S room UnknownName ≡ not found
known room h f = rw h.are (ap not (sym (f.told h.ds h.are)))

module _ {S old : List ℕ} where
  -- the test of a refusal passes
  pub stop : (x : SchemaRefusal) {p : ℕ} → schema_place (read_schema S) x ≡ p → test S (length old) x ≡ true → Zero old → Answered S x old old (Refused x p)
  unfolding result_by
  stop x {p} e t z =
      record { told = rw (from-rank x) (rw t (ap₂ (λ (i : ℕ) (w : List ℕ). record { answer = Refused x i; words = w }) e (sym z.told))) }

  -- it fails, and the outcome is that by the refusals after it
  past : {new : List ℕ} {r : SchemaAnswer} (x : SchemaRefusal) → test S (length old) x ≡ false
      → result_by S (length old) (drop (suc (rank x)) schema_order) ≡ record { answer = r; words = new } → Answered S x old new r
  unfolding result_by
  past x t e = record { told = rw (from-rank x) (rw t e) }

  pub on : {new : List ℕ} {r : SchemaAnswer} (x : SchemaRefusal) {y : SchemaRefusal} → rank y ≡ suc (rank x) → test S (length old) x ≡ false → Answered S y old new r → Answered S x old new r
  on x p t a = past x t (rw (← p) a.told)

  module _ {T : List ℕ} (h : IsTable S T) where
    -- a rule is broken, or kept
    pub broken : (x : SchemaRefusal) (P : List ℕ → Bool) → test S (length old) x ≡ is (written S) (λ d. not (P (table S d))) → schema_place (read_schema S) x ≡ 0 → Zero old → P T ≡ false
        → Answered S x old old (Refused x 0)
    broken x P q p z e = stop x p (q ∙ of_table h (λ T. not (P T)) ∙ rw e) z

    pub kept : {new : List ℕ} {r : SchemaAnswer} (x : SchemaRefusal) {y : SchemaRefusal} (P : List ℕ → Bool) → rank y ≡ suc (rank x)
        → test S (length old) x ≡ is (written S) (λ d. not (P (table S d))) → P T ≡ true → Answered S y old new r → Answered S x old new r
    kept x P p q e a = on x p (q ∙ of_table h (λ T. not (P T)) ∙ rw e) a

    -- whether every name found its row
    pub unknown : {found : Bool} → Refers S found → Zero old → found ≡ false → Answered S UnknownName old old (Refused UnknownName 0)
    unknown f z e = stop UnknownName refl (known (length old) h f ∙ ap not e) z

    pub all_known : {new : List ℕ} {r : SchemaAnswer} {found : Bool} → Refers S found → found ≡ true → Answered S BadChain old new r → Answered S UnknownName old new r
    unfolding rank
    all_known f e a = on UnknownName refl (known (length old) h f ∙ ap not e) a

    -- whether there are too many rows, and whether there is room
    pub too_many : Zero old → table_rows < row_count T → Answered S TooManyRows old old (Refused TooManyRows 0)
    too_many z e = stop TooManyRows refl (of_table h (λ T. ltb table_rows (row_count T)) ∙ lt-ltb table_rows (row_count T) e) z

    not_many : {new : List ℕ} {r : SchemaAnswer} → row_count T ≤ table_rows → Answered S NoRoom old new r → Answered S TooManyRows old new r
    unfolding rank
    not_many e a = on TooManyRows refl (of_table h (λ T. ltb table_rows (row_count T)) ∙ le-ltb table_rows (row_count T) e) a

    pub no_room : Zero old → row_count T ≤ table_rows → length old / row_words < row_count T → Answered S TooManyRows old old (Refused NoRoom 0)
    no_room z e f = not_many e (stop NoRoom refl (of_table h (λ T. ltb (length old / row_words) (row_count T)) ∙ lt-ltb (length old / row_words) (row_count T) f) z)

    -- no refusal is left
    unrefused : {new : List ℕ} → Zero old → new ≡ T ++ drop (length T) old → result_by S (length old) [] ≡ record { answer = Accepted (row_count T); words = new }
    unfolding result_by
    unrefused {new} z e =
        rw (h.are, sym h.rows) (ap (λ (w : List ℕ). record { answer = Accepted (row_count T); words = w })
        (ap (λ (w : List ℕ). T ++ w) (sym (ap (drop (length T)) z.told ∙ zeros-left (length old) (length T))) ∙ sym e))

    pub handed : {new : List ℕ} {n : ℕ} → Zero old → row_count T ≤ table_rows → row_count T ≤ length old / row_words → n ≡ row_count T
        → new ≡ T ++ drop (length T) old → Answered S TooManyRows old new (Accepted n)
    unfolding rank
    handed {new} {n} z e f p q =
        subst (λ (i : ℕ). Answered S TooManyRows old new (Accepted i)) (sym p)
        (not_many e (past NoRoom (of_table h (λ T. ltb (length old / row_words) (row_count T)) ∙ le-ltb (length old / row_words) (row_count T) f) (unrefused z q)))
