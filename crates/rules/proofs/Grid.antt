-- The JSON kinds of the built-ins and of type references: what the grid lets through has the kind that its row says.
-- The idea: one computed test over the whole grid, carried to each entry; past the grid's end `get_or` gives the default.
use Prim.Native.Nat.{ℕ, ◌+◌, ◌-◌, ◌≤◌, ◌<◌, zero-le}
use mathlib.Core.Path.{◌≡◌, refl, sym, ap, ◌∙◌}
use mathlib.Core.Bool.{Bool, true, false, not, cond, ◌||◌, and-false}
use mathlib.Core.List.{List, [], ◌∷◌, Memᴰ}
use mathlib.Core.Option.{none, some}
use native.Mathlib.Omega.{arith}
use lib.Dec.{ltb}
use lib.ListN.{get_or, get_or-eq_default}
use borrow.Author.Tests.{eqb-true, eqb-false, lt-ltb, le-ltb, ltb-true, ltb-false}
use Rattle.grammar.specs.Notation.{all}
use Rattle.grammar.specs.Tree.{Json, Kind, kind_of}
use Rattle.grammar.specs.Tree.Scalar.{null, bool, num, str}
use Rattle.grammar.specs.Tree.Json.{leaf, arr, obj}
use Rattle.grammar.specs.Tree.Kind.{object, array, string, number, boolean, null_kind}
use Rattle.rules.specs.Types.{first_row, built_in_kinds, column, same_kind, takes_kind, grid, takes, any_type, is_built_in, value_in_range, built_in_takes}
use Rattle.rules.specs.Rows.{up_from, is_enum, is_struct, is_union, type_kind}
use Rattle.rules.proofs.Lists.{clash, and_left, or_implies, all_true, in_up_from}

abbrev kinds : List Kind
kinds = object ∷ array ∷ string ∷ number ∷ boolean ∷ null_kind ∷ []

every-kind : (k : Kind) → Memᴰ k kinds
every-kind object = Memᴰ.head refl
every-kind array = Memᴰ.tail (Memᴰ.head refl)
every-kind string = Memᴰ.tail (Memᴰ.tail (Memᴰ.head refl))
every-kind number = Memᴰ.tail (Memᴰ.tail (Memᴰ.tail (Memᴰ.head refl)))
every-kind boolean = Memᴰ.tail (Memᴰ.tail (Memᴰ.tail (Memᴰ.tail (Memᴰ.head refl))))
every-kind null_kind = Memᴰ.tail (Memᴰ.tail (Memᴰ.tail (Memᴰ.tail (Memᴰ.tail (Memᴰ.head refl)))))

kind-back : (k : Kind) → get_or kinds (column k) object ≡ k
kind-back object = refl
kind-back array = refl
kind-back string = refl
kind-back number = refl
kind-back boolean = refl
kind-back null_kind = refl

pub same_kind_lem : (j k : Kind) → same_kind j k ≡ true → j ≡ k
same_kind_lem j k e = sym (kind-back j) ∙ ap (λ n. get_or kinds n object) (eqb-true (column j) (column k) e) ∙ kind-back k

pub other-kind : (j k : Kind) → same_kind j k ≡ false → j ≡ k → ⊥
other-kind j k e p = eqb-false (column j) (column k) e (ap column p)

-- a test of every entry, carried to one
pub grid-entry : (f : ℕ → Kind → Bool) → all (λ t. all (f t) kinds) (up_from 0 first_row) ≡ true → (t : ℕ) (k : Kind) → t < first_row → f t k ≡ true
grid-entry f h t k l = all_true (f t) kinds (all_true (λ u. all (f u) kinds) (up_from 0 first_row) h t (in_up_from first_row 0 t zero-le (omega arith))) k (every-kind k)

pub takes-below : (t : ℕ) (k : Kind) → takes t k ≡ true → t < first_row
unfolding takes
takes-below t k h = go (ltb t first_row) refl
  where
    go : (b : Bool) → ltb t first_row ≡ b → t < first_row
    go true e = ltb-true t first_row e
    go false e = absurd (clash h (rw (get_or-eq_default ([] ∷ grid) [] {n = t} (ltb-false t first_row e))))

pub grid-takes : (t : ℕ) (j : Json) → built_in_takes t j ≡ true → takes t (kind_of j) ≡ true
unfolding built_in_takes
grid-takes t j h = and_left (takes t (kind_of j)) (value_in_range t j) h

-- only built-ins take anything, no row does, and any takes every value
pub takes-built_in : (t : ℕ) (k : Kind) → takes t k ≡ true → is_built_in t ≡ true
unfolding takes
takes-built_in t k h = or_implies (takes t k) (is_built_in t) (grid-entry (λ u j. not (takes u j) || is_built_in u) refl t k (takes-below t k h)) h

pub row_no_built_in : (t : ℕ) → first_row ≤ t → is_built_in t ≡ false
row_no_built_in t l = rw (le-ltb t first_row l) (and-false (ltb 0 t))

pub any-takes : (j : Json) → built_in_takes any_type j ≡ true
unfolding built_in_takes takes
any-takes (leaf a e null) = refl
any-takes (leaf a e (bool b)) = refl
any-takes (leaf a e (num i token)) = refl
any-takes (leaf a e (str cs)) = refl
any-takes (arr a e js) = refl
any-takes (obj a e fs) = refl

takes_kind_lem : (t : ℕ) (k : Kind) → takes t k ≡ true → takes_kind (get_or (none ∷ built_in_kinds) t none) k ≡ true
unfolding takes
takes_kind_lem t k h =
    or_implies (takes t k) (takes_kind (get_or (none ∷ built_in_kinds) t none) k)
    (grid-entry (λ u j. not (takes u j) || takes_kind (get_or (none ∷ built_in_kinds) u none) j) refl t k (takes-below t k h)) h

-- the kind of a reference, to a built-in and to a row
module _ (T : List ℕ) where
  pub built_in_kind_lem : (t : ℕ) → t < first_row → type_kind T t ≡ get_or (none ∷ built_in_kinds) t none
  unfolding type_kind
  built_in_kind_lem t l = rw (lt-ltb t first_row l)

  pub row_kind_lem : (t r : ℕ) → t ≡ first_row + r → type_kind T t ≡ cond (is_enum T r) (some string) (cond (is_struct T r || is_union T r) (some object) none)
  unfolding type_kind
  row_kind_lem t r e =
      let z : t - first_row ≡ r = omega arith in
      rw (le-ltb t first_row (omega arith), z)

  -- what the grid lets through at a type of one kind has that kind
  pub takes_same : (t : ℕ) (j k : Kind) → type_kind T t ≡ some j → takes t k ≡ true → j ≡ k
  takes_same t j k p h =
      let z : get_or (none ∷ built_in_kinds) t none ≡ some j = sym (built_in_kind_lem t (takes-below t k h)) ∙ p in
      same_kind_lem j k (rw z at (takes_kind_lem t k h))
