-- What enums look like, as words tell: a word tells what was found, a new one tells it too, and hashes tell nothing.
-- By what a string may look like, and by the cases of a type.
use Prim.Native.Nat.{ℕ, ◌+◌, ◌-◌, ◌≤◌, ◌<◌}
use mathlib.Core.Path.{◌≡◌, refl, ap, ◌∙◌}
use mathlib.Core.Bool.{Bool, true, false, cond}
use mathlib.Core.List.{List}
use native.Mathlib.Omega.{arith}
use lib.Dec.{eqb}
use lib.ListN.{length, get_or, set, length-set}
use lib.Seq.{get_or-set_same, get_or-set_other}
use mir.Syntax.{w8}
use mir.Val.{Fits}
use borrow.Author.Tests.{eqb-true, eqb-false, eq-eqb, ne_eqb, le-leb, lt-leb}
use Rattle.grammar.proofs.Booleans.{by}
use Rattle.rules.specs.Kinds.{enum_kind}
use Rattle.rules.specs.Types.{first_row, str_type}
use Rattle.rules.specs.Rows.{kind}
use Rattle.rows.specs.Hashes.{Hashes}
use Rattle.rows.proofs.HashLaws.{hashes_small}
use Rattle.table.specs.declared.looks.Like.{Like}
use Rattle.table.specs.declared.looks.Like.TheVariants.{Number, Boolean}
use Rattle.table.specs.Looks.{looked, look_word, tells, enum_looks, type_looks, looks_of, Looked}

pub mark-small : (b : Bool) (m : ℕ) → cond b m 0 ≤ m
mark-small b m = by (λ n. n ≤ m) b (λ _. omega arith) (λ _. omega arith)

pub marks : {m n : ℕ} {x x' y y' : Bool} → m ≡ cond x 1 0 → x ≡ x' → n ≡ cond y 2 0 → y ≡ y' → looked + m + n ≡ look_word x' y'
marks p q u v = rw (p, q, u, v)

-- a word tells what was found
number-told : (n b : Bool) → tells Number (look_word n b) ≡ n
number-told true true = refl
number-told true false = refl
number-told false true = refl
number-told false false = refl

boolean_told : (n b : Bool) → tells Boolean (look_word n b) ≡ b
boolean_told true true = refl
boolean_told true false = refl
boolean_told false true = refl
boolean_told false false = refl

module _ (S T : List ℕ) where
  pub told_right : (like : Like) (e : ℕ) {w : ℕ} → w ≡ looks_of S T e → tells like w ≡ enum_looks S T like e
  told_right Number e q = ap (tells Number) q ∙ number-told (enum_looks S T Number e) (enum_looks S T Boolean e)
  told_right Boolean e q = ap (tells Boolean) q ∙ boolean_told (enum_looks S T Number e) (enum_looks S T Boolean e)

  -- by the cases of a type
  module _ (like : Like) (t : ℕ) where
    pub str-looks : t ≡ str_type → true ≡ type_looks S T like t
    unfolding type_looks
    str-looks e = rw (eq-eqb t str_type e)

    module _ (n : t ≡ str_type → ⊥) where
      pub other-looks : t < first_row → false ≡ type_looks S T like t
      unfolding type_looks
      other-looks h = rw (ne_eqb t str_type n, lt-leb first_row t h)

      module _ (h : first_row ≤ t) {k : ℕ} (p : k ≡ kind T (t - first_row)) where
        pub row-looks : (k ≡ enum_kind → ⊥) → false ≡ type_looks S T like t
        unfolding type_looks
        row-looks m = rw (ne_eqb t str_type n, le-leb first_row t h, ← p, ne_eqb k enum_kind m)

        pub enum_looks_lem : k ≡ enum_kind → enum_looks S T like (t - first_row) ≡ type_looks S T like t
        unfolding type_looks enum_looks
        enum_looks_lem m = rw (ne_eqb t str_type n, le-leb first_row t h, ← p, eq-eqb k enum_kind m)

-- a new word tells the truth, and hashes tell nothing
module _ {S T words : List ℕ} where
  pub looked-more : Looked S T words → {e w : ℕ} → e < length words → w ≡ looks_of S T e → Looked S T (set words e w)
  looked-more l {e} {w} h q = record { told = λ i b g. go i b g (eqb i e) refl }
    where
      go : (i : ℕ) → i < length (set words e w) → looked ≤ get_or (set words e w) i 0 → (b : Bool) → eqb i e ≡ b → get_or (set words e w) i 0 ≡ looks_of S T i
      go i b g true y = let z : i ≡ e = eqb-true i e y in rw z (get_or-set_same words e w 0 h ∙ q)
      go i b g false y =
          let o : get_or (set words e w) i 0 ≡ get_or words i 0 = get_or-set_other words e i w 0 (eqb-false i e y) in
          o ∙ l.told i (omega (arith, length-set words e w)) (omega arith)

  pub hashes_looked : Hashes S T words → ((i : ℕ) → Fits w8 (get_or S i 0)) → Looked S T words
  hashes_looked k f = record { told = λ e h g. absurd (omega (arith, hashes_small (λ (i : ℕ). omega (arith, f i)) k e h)) }
