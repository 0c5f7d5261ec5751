-- In every reading, of any table over any bytes: no string stands at a numeric type, and no number at `str` or at an enum.
-- The idea: one computed test over the whole grid; every rule but Built-in gives a leaf a reference that its own premises keep apart.
use Prim.Native.Nat.{ℕ, ◌+◌, ◌≤◌}
use mathlib.Core.Path.{◌≡◌, refl, sym, ap, subst}
use mathlib.Core.Bool.{Bool, true, false, not, ◌&&◌}
use mathlib.Core.List.Memᴰ
use mathlib.Core.List.{List, [], ◌∷◌, ◌++◌, Memᴰ}
use mathlib.Core.Logic.{⊎_elim}
use native.Mathlib.Omega.{arith}
use lib.Dec.{eqb, leb}
use borrow.Author.Tests.{eq-eqb, le-leb}
use Rattle.grammar.specs.Notation.{within}
use Rattle.grammar.specs.Tree.{Json, Items, Fields, Kind, kind_of}
use Rattle.grammar.specs.Tree.Scalar.{str}
use Rattle.grammar.specs.Tree.Json.{leaf, arr, obj}
use Rattle.grammar.specs.Tree.Kind.{object, array, string, number, boolean, null_kind}
use Rattle.rules.specs.Kinds.{enum_kind}
use Rattle.rules.specs.Types.{first_row, takes}
use Rattle.rules.specs.Rows.{kind}
use Rattle.rules.specs.Readings.{Typed, typed, Reads}
use Rattle.rules.specs.Readings.Reads.{built_in, enum, struct, no_type, union, alternate, array as array_of}
use Rattle.rules.specs.Readings.ReadsItems.{no_item, one_item}
use Rattle.rules.specs.Readings.ReadsFields.{no_field, one_field}
use Rattle.rules.specs.Demands.{DigitsApart}
use Rattle.rules.proofs.Lists.{and_of, of_not}
use Rattle.rules.proofs.Grid.{other-kind, grid-entry, takes-below, grid-takes}

-- the entries that must be empty: strings at 2 to 12, numbers at 1
abbrev crossed : ℕ → Kind → Bool
crossed t object = false
crossed t array = false
crossed t string = within 2 12 t
crossed t number = eqb t 1
crossed t boolean = false
crossed t null_kind = false

-- tested over the whole grid at once
grid-keeps-apart : (t : ℕ) (k : Kind) → takes t k ≡ true → crossed t k ≡ true → ⊥
unfolding takes
grid-keeps-apart t k p q =
    of_not (takes t k && crossed t k) (grid-entry (λ u j. not (takes u j && crossed u j)) refl t k (takes-below t k p)) (and_of (takes t k) (crossed t k) p q)

module _ (T : List ℕ) where
  -- at a built-in, at a row
  at_built_in : (j : Json) (t f : ℕ) → takes t (kind_of j) ≡ true → DigitsApart T (typed j t f)
  at_built_in j t f h = record {
    string_not_number = λ a e cs p l m. grid-keeps-apart t string (taken (ap kind_of p)) (and_of (leb 2 t) (leb t 12) (le-leb 2 t l) (le-leb t 12 m));
    number_not_string = λ a e i token p l. grid-keeps-apart t number (taken (ap kind_of p)) (eq-eqb t 1 l);
    number_not_enum = λ a e i token r p (l : t ≡ first_row + r) k. omega (arith, takes-below t (kind_of j) h);
  }
    where
      taken : {k : Kind} → kind_of j ≡ k → takes t k ≡ true
      taken e = subst (λ k. takes t k ≡ true) e h

  at_row : (j : Json) (t f r : ℕ) → t ≡ first_row + r → (kind_of j ≡ number → kind T r ≡ enum_kind → ⊥) → DigitsApart T (typed j t f)
  at_row j t f r z n = record {
    string_not_number = λ a e cs p (l : 2 ≤ t) (m : t ≤ 12). omega arith;
    number_not_string = λ a e i token p (l : t ≡ 1). omega arith;
    number_not_enum = λ a e i token r' p (l : t ≡ first_row + r') k. n (ap kind_of p) (let y : r' ≡ r = omega arith in rw y at k);
  }

  -- neither a string nor a number
  at_other : (j : Json) (t f : ℕ) → (kind_of j ≡ string → ⊥) → (kind_of j ≡ number → ⊥) → DigitsApart T (typed j t f)
  at_other j t f n n' = record {
    string_not_number = λ a e cs p l m. n (ap kind_of p);
    number_not_string = λ a e i token p l. n' (ap kind_of p);
    number_not_enum = λ a e i token r p l k. n' (ap kind_of p);
  }

  at_object : (a e : ℕ) (fs : Fields) (t : ℕ) → DigitsApart T (typed (obj a e fs) t 0)
  at_object a e fs t = at_other (obj a e fs) t 0 (other-kind object string refl) (other-kind object number refl)

  at-array : (a e : ℕ) (js : Items) (t : ℕ) → DigitsApart T (typed (arr a e js) t 1)
  at-array a e js t = at_other (arr a e js) t 1 (other-kind array string refl) (other-kind array number refl)

  -- a list of them, from the first and the others, and from two parts
  abbrev AllApart : List Typed → Type 0
  AllApart ts = (x : Typed) → Memᴰ x ts → DigitsApart T x

  none_of : AllApart []
  none_of x m = elim m [ ]

  first-and : (y : Typed) (ts : List Typed) → DigitsApart T y → AllApart ts → AllApart (y ∷ ts)
  first-and y ts u f x m = ⊎_elim (λ (e : x ≡ y). subst (DigitsApart T) (sym e) u) (f x) (Memᴰ.cases_cons m)

  both_of : (ts us vs : List Typed) → AllApart ts → AllApart us → vs ≡ ts ++ us → AllApart vs
  both_of ts us vs f g p x m = ⊎_elim (f x) (g x) (Memᴰ.append_cases ts (subst (Memᴰ x) p m))

module _ (S T : List ℕ) where
  pub digits_apart : {passes : Bool} {j : Json} {t f : ℕ} {ts : List Typed} → Reads passes S T j t f ts → (x : Typed) → Memᴰ x ts → DigitsApart T x
  digits_apart h = elim h as (λ j t f ts d. AllApart T ts) (λ js t ts d. AllApart T ts) (λ ms fs ts d. AllApart T ts) [
    | built_in {j} {t} h ↦ first-and T _ _ (at_built_in T j t 0 (grid-takes t j h)) (none_of T)
    | enum {a} {e} {t} {cs = cs} r z k v n ↦ first-and T _ _ (at_row T (leaf a e (str cs)) t 0 r z (λ p _. other-kind string number refl p)) (none_of T)
    | struct {a} {e} {t} {fs} r z k g n (h → ih) ↦ first-and T _ _ (at_object T a e fs t) ih
    | no_type {a} {e} {fs} (h → ih) ↦ first-and T _ _ (at_object T a e fs 0) ih
    | union {a} {e} {t} {fs} r z k g b q n (h → ih) ↦ first-and T _ _ (at_object T a e fs t) ih
    | alternate {j} {t} r z k c (h → ih) ↦ first-and T _ _ (at_row T j t 0 r z (λ _ (q : kind T r ≡ enum_kind). omega arith)) ih
    | array_of {a} {e} {t} {js} (h → ih) ↦ first-and T _ _ (at-array T a e js t) ih
    | no_item ↦ none_of T
    | one_item (h → ih) (g → ih') p ↦ both_of T _ _ _ ih ih' p
    | no_field ↦ none_of T
    | one_field i n (h → ih) (g → ih') p ↦ both_of T _ _ _ ih ih' p
  ]
