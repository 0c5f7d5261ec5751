-- Words put into rows, one by one: what each function makes of the rows, and that kinds, names and lengths stay.
-- The idea: only words 4 to 6 of a row are ever put, so the rows keep the heads of the indexed table.
use Prim.Native.Nat.{ℕ, zero, suc, ◌+◌, ◌*◌, ◌≤◌, ◌<◌}
use mathlib.Core.Path.{◌≡◌, refl, sym, ap, ap₂, ◌∙◌, subst}
use mathlib.Core.Bool.{Bool, true, false, cond, ◌&&◌, ◌||◌}
use mathlib.Core.List.{List}
use native.Mathlib.Numerals.{add-one}
use native.Mathlib.Omega.{arith}
use Rattle.std.specs.Prelude.{Option, is_some, unwrap_or}
use Rattle.builtins.specs.Names.{if_any}
use lib.Dec.{eqb, ltb}
use lib.ListN.{length, get_or, set, length-set}
use lib.Seq.{get_or-set_other}
use borrow.Author.Tests.{lt-ltb}
use Rattle.grammar.specs.Limits.{row_words}
use Rattle.rules.specs.Kinds.{struct_kind, member_kind, union_kind, branch_kind, alternative_kind, command_kind}
use Rattle.rules.specs.Rows.{kind, owns}
use Rattle.table.specs.Definitions.{DefinitionIndex}
use Rattle.references.specs.NamedWords.{base_word, type_word, branch_word, owner_word, returns_word}
use Rattle.references.specs.Lookups.{word_refers, Heads, Refers}
use Rattle.references.specs.declared.slots.Slot.{Slot}
use Rattle.references.specs.declared.slots.Slot.TheVariants.{Word, Data, Command, Nothing}
use Rattle.references.specs.Steps.{put_at, found_at, put_data, found_data, put_command, found_command, slot_of, put_slot, found_slot, put_row, found_row, put_rows, found_rows, Puts}

-- heads
pub heads_own : (T : List ℕ) → Heads T T
heads_own T = record { same_head = λ r i h. refl }

heads_set : (T U : List ℕ) (r i v : ℕ) → 3 ≤ i → i < row_words → Heads T U → Heads T (set U (row_words * r + i) v)
heads_set T U r i v a b h = record {
  same_head = λ j n l. get_or-set_other U (row_words * r + i) (row_words * j + n) v 0 (λ (e : row_words * j + n ≡ row_words * r + i). omega arith) ∙ h.same_head j n l;
}

-- what holds of each slot that a kind has: a slot of one word is of one after the head of a row
by_slot : (Q : Slot → Type 0) → ((s : Bool) (i : ℕ) → 3 ≤ i → i < row_words → Q (Word s i)) → Q Data → Q Command → Q Nothing → (k : ℕ) → Q (slot_of k)
by_slot Q w d c n k =
    choose (eqb k struct_kind) (w true base_word (omega arith) (omega arith))
    (choose (eqb k member_kind) (w false type_word (omega arith) (omega arith))
    (choose (eqb k union_kind) d
    (choose (eqb k branch_kind) (w true branch_word (omega arith) (omega arith))
    (choose (eqb k alternative_kind) (w false type_word (omega arith) (omega arith)) (choose (eqb k command_kind) c n)))))
  where
    choose : (b : Bool) {x y : Slot} → Q x → Q y → Q (cond b x y)
    choose true p q = p
    choose false p q = q

pub slot_inside : (k : ℕ) {i : ℕ} {s : Bool} → Word s i ≡ slot_of k → i < row_words
slot_inside k {i} {s} e =
    by_slot (λ x. Word s i ≡ x → i < row_words) (λ t j _ h f. let g : i ≡ j = cc in omega arith) (λ f. absurd (never f refl)) (λ f. absurd (never f refl)) (λ f. absurd (never f refl)) k e
  where
    is_word : Slot → ℕ
    is_word (Word s i) = 1
    is_word Data = 0
    is_word Command = 0
    is_word Nothing = 0

    never : {x : Slot} → Word s i ≡ x → is_word x ≡ 0 → ⊥
    never e z = let f = ap is_word e in omega arith

-- a property that putting a word from the fourth on keeps
module _ (S T : List ℕ) (P : List ℕ → Type 0) (keeps : (U : List ℕ) (r i v : ℕ) → 3 ≤ i → i < row_words → P U → P (set U (row_words * r + i) v)) where
  kept-cond : (b : Bool) (U W : List ℕ) → P U → P W → P (cond b U W)
  kept-cond true U W p q = p
  kept-cond false U W p q = q

  kept_at : (s : Bool) (r i : ℕ) (U : List ℕ) → 3 ≤ i → i < row_words → P U → P (put_at S T s (row_words * r + i) U)
  kept_at s r i U a b p = keeps U r i (word_refers S T s (get_or U (row_words * r + i) 0)) a b p

  pub kept_data : (r : ℕ) (U : List ℕ) → P U → P (put_data S T r U)
  unfolding put_data
  kept_data r U p = kept-cond (owns U r) U (put_at S T true (row_words * r + owner_word) U) p (kept_at true r owner_word U (omega arith) (omega arith) p)

  kept-command : (r : ℕ) (U : List ℕ) → P U → P (put_command S T r U)
  unfolding put_command
  kept-command r U p = kept_at false r returns_word (put_data S T r U) (omega arith) (omega arith) (kept_data r U p)

  pub kept_row : (r : ℕ) (U : List ℕ) → P U → P (put_row S T r U)
  unfolding put_row
  kept_row r U p = by_slot (λ x. P (put_slot S T x r U)) (λ s i a b. kept_at s r i U a b p) (kept_data r U p) (kept-command r U p) p (kind U r)

  pub kept-rows : P T → (r : ℕ) → P (put_rows S T r)
  unfolding put_rows
  kept-rows p zero = p
  kept-rows p (suc r) = kept_row r (put_rows S T r) (kept-rows p r)

pub heads_rows : (S T : List ℕ) (r : ℕ) → Heads T (put_rows S T r)
heads_rows S T r = kept-rows S T (Heads T) (heads_set T) (heads_own T) r

pub length-rows : (S T : List ℕ) (r : ℕ) → length (put_rows S T r) ≡ length T
length-rows S T r = kept-rows S T (λ U. length U ≡ length T) (λ U j i v a b p. length-set U (row_words * j + i) v ∙ p) refl r

-- word k
number_in : (n : ℕ) → unwrap_or (if_any n) 0 ≡ n
number_in zero = refl
number_in (suc n) = refl

any_in : (n : ℕ) → is_some (if_any n) ≡ ltb 0 n
any_in zero = refl
any_in (suc n) = sym (lt-ltb 0 (suc n) (omega arith))

pub word_put : {S U heads links : List ℕ} {w n : ℕ} {v : Option ℕ} {t : Bool} (s : Bool) (k : ℕ) → w ≡ get_or U k 0 → Refers S U heads links s w v → n ≡ unwrap_or v 0 → t ≡ is_some v
    → Puts S U heads links (λ T. put_at S T s k) (λ T. found_at S T s k) (set U k n) (eqb w 0 || t)
word_put {S} {U} {w = w} {n} {v} s k p f z e = record {
  same_length = length-set U k n;
  told = λ T j h.
      let q : v ≡ if_any (word_refers S T s w) = f.told T j h in (
        ap (set U k) z ∙ ap (λ (o : Option ℕ). set U k (unwrap_or o 0)) q ∙ ap (set U k) (number_in (word_refers S T s w) ∙ ap (word_refers S T s) p),
        ap (λ (t : Bool). eqb w 0 || t) e ∙ ap (λ (o : Option ℕ). eqb w 0 || is_some o) q ∙ ap (λ (t : Bool). eqb w 0 || t) (any_in (word_refers S T s w))
            ∙ ap (λ (i : ℕ). eqb i 0 || ltb 0 (word_refers S T s i)) p,
      );
}

-- the base of a union or the data of a command
module _ {S U heads links : List ℕ} (r : ℕ) {b : Bool} (p : b ≡ owns U r) where
  pub data_inline : b ≡ true → Puts S U heads links (λ T. put_data S T r) (λ T. found_data S T r) U true
  unfolding put_data found_data
  data_inline e = let i : owns U r ≡ true = sym p ∙ e in record { same_length = refl; told = λ T j h. (rw i, rw i) }

  pub data_named : b ≡ false → {new : List ℕ} {t : Bool} → Puts S U heads links (λ T. put_at S T true (row_words * r + owner_word)) (λ T. found_at S T true (row_words * r + owner_word)) new t
      → Puts S U heads links (λ T. put_data S T r) (λ T. found_data S T r) new t
  unfolding put_data found_data
  data_named e f =
      let i : owns U r ≡ false = sym p ∙ e in
      record { same_length = f.same_length; told = λ T j h. let z = f.told T j h in (rw i z.0, rw i z.1) }

-- one after the other
pub command-both : {S U heads links : List ℕ} (r : ℕ) {mid new : List ℕ} {a b t : Bool}
    → Puts S U heads links (λ T. put_data S T r) (λ T. found_data S T r) mid a
    → Puts S mid heads links (λ T. put_at S T false (row_words * r + returns_word)) (λ T. found_at S T false (row_words * r + returns_word)) new b → t ≡ (a && b)
    → Puts S U heads links (λ T. put_command S T r) (λ T. found_command S T r) new t
unfolding put_command found_command
command-both {S} {U} r {mid} f g e = record {
  same_length = g.same_length ∙ f.same_length;
  told = λ T j h.
      let x = f.told T j h in
      let y = g.told T j (subst (Heads T) (sym x.0) (kept_data S T (Heads T) (heads_set T) r U h)) in
      (y.0 ∙ ap (put_at S T false (row_words * r + returns_word)) x.0, e ∙ ap₂ ◌&&◌ x.1 (y.1 ∙ ap (found_at S T false (row_words * r + returns_word)) x.0));
}

-- row r by its kind
module _ (S U : List ℕ) (r : ℕ) {k : ℕ} (p : k ≡ kind U r) (T : List ℕ) where
  pub row_at : (put_row S T r U ≡ put_slot S T (slot_of k) r U) × (found_row S T r U ≡ found_slot S T (slot_of k) r U)
  unfolding put_row found_row
  row_at = (rw p, rw p)

pub row_by : {S U heads links : List ℕ} (r : ℕ) {k : ℕ} (x : Slot) {new : List ℕ} {b : Bool} → k ≡ kind U r → x ≡ slot_of k
    → Puts S U heads links (λ T. put_slot S T x r) (λ T. found_slot S T x r) new b → Puts S U heads links (λ T. put_row S T r) (λ T. found_row S T r) new b
row_by {S} {U} r x p e f = record {
  same_length = f.same_length;
  told = λ T j h. let z = row_at S U r p T in (
    (f.told T j h).0 ∙ ap (λ (y : Slot). put_slot S T y r U) e ∙ sym z.0,
    (f.told T j h).1 ∙ ap (λ (y : Slot). found_slot S T y r U) e ∙ sym z.1,
  );
}

-- a row that names nothing
pub row_kept : {S U heads links : List ℕ} → Puts S U heads links (λ _ U. U) (λ _ _. true) U true
row_kept = record { same_length = refl; told = λ T j h. (refl, refl) }

-- all rows
module _ (S T : List ℕ) where
  pub rows_start : (T ≡ put_rows S T 0) × (true ≡ found_rows S T 0)
  unfolding put_rows found_rows
  rows_start = (refl, refl)

  pub rows_next : (r : ℕ) {heads links U : List ℕ} {a t b : Bool} {new : List ℕ} → DefinitionIndex S T heads links → U ≡ put_rows S T r → a ≡ found_rows S T r
      → Puts S U heads links (λ T. put_row S T r) (λ T. found_row S T r) new t → b ≡ (a && t) → (new ≡ put_rows S T (r + 1)) × (b ≡ found_rows S T (r + 1))
  unfolding put_rows found_rows
  rows_next r k x y f e =
      let z = f.told T k (subst (Heads T) (sym x) (heads_rows S T r)) in
      rw (add-one r) (z.0 ∙ ap (put_row S T r) x, e ∙ ap₂ ◌&&◌ y (z.1 ∙ ap (found_row S T r) x))
