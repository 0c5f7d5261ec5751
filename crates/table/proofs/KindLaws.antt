-- JSON kinds as columns of the grid, alternatives whose kinds are apart, and what a command may return.
-- Alternatives are taken off the front of their list.
use Prim.Native.Nat.{ℕ, ◌-◌, ◌≤◌, ◌<◌}
use mathlib.Core.Path.{◌≡◌, refl, sym, ap, ◌∙◌}
use mathlib.Core.Bool.{Bool, true, false, not, ◌&&◌, ◌||◌, and_assoc, and_comm}
use mathlib.Core.List.{List, ◌∷◌}
use mathlib.Core.Option.{Option, none, some}
use native.Mathlib.Omega.{arith}
use lib.Dec.{eqb}
use borrow.Author.Tests.{le-leb, lt-leb, ne_eqb}
use Rattle.grammar.specs.Notation.{all, apart}
use Rattle.grammar.specs.Tree.{Kind}
use Rattle.rules.specs.Kinds.{struct_kind, union_kind}
use Rattle.rules.specs.Types.{first_row, column}
use Rattle.rules.specs.Rows.{kind, type_ref, type_kind}
use Rattle.rules.specs.Rules.{is, same_kinds, kinds_of, kinds_fit, return_fits}
use Rattle.rules.proofs.Grid.{built_in_kind_lem, row_kind_lem}
use Rattle.grammar.specs.Tree.Kind.{object, array, string, number, boolean, null_kind}
use Rattle.builtins.specs.Kinds.{built_in_kind}
use Rattle.table.specs.RuleParts.{kind_of_row}
use Rattle.table.specs.Alternatives.{no_column, kind_column, column_of, kind_new}
use Rattle.rows.proofs.ListLaws.{all_map, all_same, eqb-sym}

pub column-small : (k : Kind) → column k < no_column
column-small object = omega arith
column-small array = omega arith
column-small string = omega arith
column-small number = omega arith
column-small boolean = omega arith
column-small null_kind = omega arith

-- the kind of a type
module _ (T : List ℕ) where
  pub built_in-type : {t : ℕ} {o : Option Kind} → t < first_row → o ≡ built_in_kind t → o ≡ type_kind T t
  built_in-type {t} h p = p ∙ sym (built_in_kind_lem T t h)

  pub row-type : {t k : ℕ} {o : Option Kind} → first_row ≤ t → k ≡ kind T (t - first_row) → o ≡ kind_of_row k → o ≡ type_kind T t
  row-type {t} {k} h p q = q ∙ ap kind_of_row p ∙ sym (row_kind_lem T t (t - first_row) (omega arith))

-- alternatives
module _ (T : List ℕ) where
  abbrev kind_of : ℕ → Option Kind
  kind_of r = type_kind T (type_ref T r)

  same-column : (j : Kind) (o : Option Kind) → not (same_kinds (some j) o) ≡ not (eqb (kind_column o) (column j))
  same-column j none = rw (ne_eqb no_column (column j) (omega (arith, column-small j)))
  same-column j (some i) = rw (eqb-sym (column j) (column i))

  new-kinds : (j : Kind) (l : List ℕ) → all (λ y. not (same_kinds (some j) y)) (kinds_of T l) ≡ kind_new T (column j) l
  unfolding kind_new
  new-kinds j l =
      all_map kind_of (λ y. not (same_kinds (some j) y)) l
      ∙ all_same (λ r. not (same_kinds (some j) (kind_of r))) (λ r. not (eqb (kind_column (kind_of r)) (column j))) l (λ r. same-column j (kind_of r))

  module _ (r : ℕ) (l : List ℕ) {k : ℕ} (e : k ≡ column_of T r) where
    pub kinds-none : k ≡ no_column → kinds_fit T (r ∷ l) ≡ false
    unfolding kinds_fit
    kinds-none z = go (kind_of r) refl
      where
        go : (o : Option Kind) → kind_of r ≡ o → kinds_fit T (r ∷ l) ≡ false
        go none q = rw q
        go (some j) q = let c : kind_column (kind_of r) ≡ column j = ap kind_column q in absurd (omega (arith, column-small j))

    pub kinds-more : (k ≡ no_column → ⊥) → kinds_fit T (r ∷ l) ≡ kind_new T k l && kinds_fit T l
    unfolding kinds_fit
    kinds-more n = go (kind_of r) refl
      where
        kinds : Bool
        kinds = all (λ k. is k (λ _. true)) (kinds_of T l)

        others : Bool
        others = apart same_kinds (kinds_of T l)

        -- the test of the later kinds goes in front
        in_front : (new : Bool) → kinds && (new && others) ≡ new && (kinds && others)
        in_front new = sym (and_assoc kinds new others) ∙ ap (λ (t : Bool). t && others) (and_comm kinds new) ∙ and_assoc new kinds others

        go : (o : Option Kind) → kind_of r ≡ o → kinds_fit T (r ∷ l) ≡ kind_new T k l && kinds_fit T l
        go none q = absurd (n (e ∙ ap kind_column q))
        go (some j) q = let c : k ≡ column j = e ∙ ap kind_column q in rw (q, new-kinds j l, c) (in_front (kind_new T (column j) l))

-- a return: nothing, or a struct or a union
module _ (T : List ℕ) {t : ℕ} where
  pub return_nothing : t ≡ 0 → true ≡ return_fits T t
  return_nothing z = rw z

  module _ (n : t ≡ 0 → ⊥) where
    pub return_built_in : t < first_row → false ≡ return_fits T t
    return_built_in h = rw (ne_eqb t 0 n, lt-leb first_row t h)

    module _ (h : first_row ≤ t) {k : ℕ} (p : k ≡ kind T (t - first_row)) where
      pub return_is : (b : Bool) → eqb k struct_kind || eqb k union_kind ≡ b → b ≡ return_fits T t
      return_is b e = rw (ne_eqb t 0 n, le-leb first_row t h, ← p, e)
