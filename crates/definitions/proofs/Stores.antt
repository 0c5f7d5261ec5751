-- Rows stored one after the other, and a row stored under those after it: what stands there in the end.
-- Stores by induction on the words stored; what functions answer by cases on the answer.
use Prim.Native.Nat.{ℕ, suc, ◌+◌, ◌-◌, ◌*◌, ◌/◌, ◌≤◌, ◌<◌}
use native.Mathlib.Nat.{add-zero}
use native.Mathlib.Omega.{arith}
use mathlib.Core.Path.{◌≡◌, refl, sym, ap, ap₂, ◌∙◌, subst}
use mathlib.Core.List.{List, [], ◌∷◌, ◌++◌}
use mathlib.Core.Option.{Option, none}
use lib.ListN.{length, set, take, drop, length-append}
use borrow.Rule.Slice.PartMut.{put_mid}
use Rattle.std.proofs.lemmas.Slice.{put_mid-paste}
use lib.Seq.{sets, sets-eq, set_comm, length-sets, take-length}
use Rattle.grammar.specs.Limits.{row_words}
use Rattle.std.specs.Prelude.{Result, Ok, Err, IsErr}
use Rattle.definitions.specs.declared.writing.NotDefinitions.{NotDefinitions}
use Rattle.definitions.specs.Written.{RowPut, RowsAre, RowsTold, Few, PutsRows}

sets-append : (xs ys l : List ℕ) (i : ℕ) → sets l i (xs ++ ys) ≡ sets (sets l i xs) (i + length xs) ys
sets-append [] ys l i = ap (λ (k : ℕ). sets l k ys) (sym (add-zero i))
sets-append (x ∷ xs) ys l i =
    let e : suc i + length xs ≡ i + suc (length xs) = omega arith in
    sets-append xs ys (set l i x) (suc i) ∙ ap (λ (k : ℕ). sets (sets (set l i x) (suc i) xs) k ys) e

set-sets : (ys l : List ℕ) (i j v : ℕ) → j < i → set (sets l i ys) j v ≡ sets (set l j v) i ys
set-sets [] l i j v h = refl
set-sets (y ∷ ys) l i j v h =
    set-sets ys (set l i y) (suc i) j v (omega arith) ∙ ap (λ (k : List ℕ). sets k (suc i) ys) (set_comm l i j y v (λ e. omega arith))

sets-under : (xs ys l : List ℕ) (i j : ℕ) → i + length xs ≤ j → sets (sets l j ys) i xs ≡ sets (sets l i xs) j ys
sets-under [] ys l i j h = refl
sets-under (x ∷ xs) ys l i j h =
    ap (λ (k : List ℕ). sets k (suc i) xs) (set-sets ys l j i x (omega arith)) ∙ sets-under xs ys (set l i x) (suc i) j (omega arith)

pub put-none : (old : List ℕ) (n : ℕ) → RowPut old old n []
put-none old n = record { same_length = refl; words = λ h. refl }

module _ {old mid new xs ys : List ℕ} {n m : ℕ} (e : row_words * m ≡ row_words * n + length xs) where
  -- words put behind others
  pub put-after : RowPut old mid n xs → RowPut mid new m ys → RowPut old new n (xs ++ ys)
  put-after p q =
      record {
        same_length = q.same_length ∙ p.same_length;
        words = λ h.
            let a : row_words * n + length xs ≤ length old = omega (arith, length-append xs ys) in
            let b : row_words * m + length ys ≤ length mid = omega (arith, length-append xs ys, p.same_length) in
            q.words b ∙ ap (λ (k : List ℕ). sets k (row_words * m) ys) (p.words a) ∙ ap (λ (i : ℕ). sets (sets old (row_words * n) xs) i ys) e
            ∙ sym (sets-append xs ys old (row_words * n));
      }

  -- words put in front of others
  pub put_under : RowPut old mid m ys → RowPut mid new n xs → RowPut old new n (xs ++ ys)
  put_under p q =
      record {
        same_length = q.same_length ∙ p.same_length;
        words = λ h.
            let a : row_words * m + length ys ≤ length old = omega (arith, length-append xs ys) in
            let b : row_words * n + length xs ≤ length mid = omega (arith, length-append xs ys, p.same_length) in
            q.words b ∙ ap (λ (k : List ℕ). sets k (row_words * n) xs) (p.words a) ∙ sets-under xs ys old (row_words * n) (row_words * m) (omega arith)
            ∙ ap (λ (i : ℕ). sets (sets old (row_words * n) xs) i ys) e ∙ sym (sets-append xs ys old (row_words * n));
      }

-- a whole row, as a write to that part of the words gives it
pub put_whole : (old xs : List ℕ) {ys : List ℕ} {n : ℕ} → length xs ≡ row_words → n < length old / row_words → ys ≡ xs
    → RowPut old (put_mid (row_words * n) (row_words * n + row_words - row_words * n) old ys) n xs
put_whole old xs {ys} {n} w fits e =
    let h : row_words * n + length xs ≤ length old = omega arith in
    let room : row_words ≡ row_words * n + row_words - row_words * n = omega arith in
    let whole : take row_words xs ≡ xs = ap (λ (i : ℕ). take i xs) (sym w) ∙ take-length xs in
    let q : put_mid (row_words * n) (row_words * n + row_words - row_words * n) old ys ≡ sets old (row_words * n) xs =
    put_mid-paste (row_words * n) (row_words * n + row_words - row_words * n) old ys xs row_words e room (sym w)
    ∙ ap₂ (λ (x : List ℕ) (i : ℕ). take (row_words * n) old ++ x ++ drop (row_words * n + i) old) whole (sym w) ∙ sym (sets-eq xs old (row_words * n) h) in
    record { same_length = ap length q ∙ length-sets old (row_words * n) xs; words = λ _. q }

pub put-past : (old xs : List ℕ) {n : ℕ} → length xs ≡ row_words → length old / row_words ≤ n → RowPut old old n xs
put-past old xs w h = record { same_length = refl; words = λ q. absurd (omega arith) }

-- what an answer says
module _ {P : Option (List ℕ) → Type 0} {old new : List ℕ} {n most : ℕ} {r : Result ℕ NotDefinitions} (h : PutsRows P old new n most r) where
  pub came : {m : ℕ} → r ≡ Ok m → (o : Option (List ℕ)) → P o → RowsAre o old new n m
  came e o p = subst (λ (x : Result ℕ NotDefinitions). RowsTold o old new n x) e (h.told o p)

  pub bounds : {m : ℕ} → r ≡ Ok m → (n ≤ m) × (m ≤ n + most)
  bounds e = subst (λ (x : Result ℕ NotDefinitions). Few n most x) e h.few

  pub failed : {bad : NotDefinitions} → r ≡ Err bad → (o : Option (List ℕ)) → P o → o ≡ none
  failed e o p = subst (λ (x : Result ℕ NotDefinitions). RowsTold o old new n x) e (h.told o p)

few-more : (n a b : ℕ) (r : Result ℕ NotDefinitions) → a ≤ b → Few n a r → Few n b r
few-more n a b (Ok m) h f = (f.0, omega (arith, f.1))
few-more n a b (Err e) h f = tt

-- an answer handed on
pub handed : {P Q : Option (List ℕ) → Type 0} {old new : List ℕ} {n a b : ℕ} {r : Result ℕ NotDefinitions} → a ≤ b → ((o : Option (List ℕ)) → Q o → P o) → PutsRows P old new n a r → PutsRows Q old new n b r
handed {r = r} g f h = record { same_length = h.same_length; few = few-more _ _ _ r g h.few; told = λ o q. h.told o (f o q) }

pub refused : {P : Option (List ℕ) → Type 0} {old new : List ℕ} {n most : ℕ} {bad : NotDefinitions} → length new ≡ length old → ((o : Option (List ℕ)) → P o → o ≡ none) → PutsRows P old new n most (Err bad)
refused e f = record { same_length = e; few = tt; told = f }

-- a refusal handed on
pub passed_on : {P : Option (List ℕ) → Type 0} {old new : List ℕ} {n most : ℕ} {r : Result ℕ NotDefinitions} → IsErr r → length new ≡ length old → ((o : Option (List ℕ)) → P o → o ≡ none)
    → PutsRows P old new n most r
passed_on {r = Ok m} q e f = absurd (cc)
passed_on {r = Err b} q e f = refused e f
