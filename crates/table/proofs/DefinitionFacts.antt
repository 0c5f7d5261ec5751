-- Laws of definitions: good names row by row, names that are no built-in's, and kinds of definitions.
-- A name that has no place among the built-ins is none of them.
use Prim.Native.Nat.{ℕ, zero, suc}
use mathlib.Core.Path.{◌≡◌, refl, ap, ◌∙◌}
use mathlib.Core.Bool.{Bool, true, false, not, cond, ◌&&◌, ◌||◌}
use mathlib.Core.List.{List, [], ◌∷◌}
use native.Mathlib.Omega.{arith}
use lib.Dec.{eqb}
use borrow.Author.Tests.{ne_eqb}
use Rattle.grammar.specs.Notation.{all}
use Rattle.rules.specs.Kinds.{enum_kind, value_kind, struct_kind, union_kind, branch_kind, alternate_kind, command_kind}
use Rattle.rules.proofs.TableRows.{unnamed-struct}
use Rattle.rules.specs.Types.{built_ins}
use Rattle.rules.specs.Names.{good_name, same_name}
use Rattle.rules.proofs.Clashes.{fresh, built_in-fresh}
use Rattle.rules.specs.Rows.{row_count, kind, unnamed, name_of}
use Rattle.rules.specs.Rules.{is_definition, good_names}
use Rattle.rules.specs.SchemaTable.{place_in, later}
use Rattle.table.specs.Definitions.{name_fits}
use Rattle.rows.proofs.Walks.{up_to, up_to-rows}
use Rattle.table.proofs.LayoutFacts.{of_definition}

-- rule 5
pub good_names-up_to : (S T : List ℕ) → good_names S T ≡ up_to (name_fits S T) 0 (row_count T)
unfolding good_names
good_names-up_to S T = up_to-rows (name_fits S T) T

module _ (S T : List ℕ) (r : ℕ) where
  pub unnamed-fits : unnamed T r ≡ true → true ≡ name_fits S T r
  unnamed-fits i = rw i

  pub name_fits-at : (digits b : Bool) (x : List ℕ) → unnamed T r ≡ false → x ≡ name_of S T r → digits ≡ (eqb (kind T r) value_kind || eqb (kind T r) branch_kind)
      → b ≡ good_name digits x → b ≡ name_fits S T r
  name_fits-at digits b x i p q e = rw (i, ← p, ← q) e

-- a name and the built-ins
module _ (x : List ℕ) where
  -- a name that is none of a list, or one of it
  abbrev none_of : List (List ℕ) → Bool
  none_of ys = all (λ y. not (same_name x y)) ys

  none-by-place : (ys : List (List ℕ)) → place_in ys x ≡ 0 → none_of ys ≡ true
  none-by-place [] e = refl
  none-by-place (y ∷ ys) e = go (same_name x y) (place_in ys x) refl e (none-by-place ys)
    where
      go : (b : Bool) (p : ℕ) → place_in ys x ≡ p → cond b 1 (later p) ≡ 0 → (place_in ys x ≡ 0 → none_of ys ≡ true) → (not b && none_of ys) ≡ true
      go true p q r more = absurd (omega arith)
      go false zero q r more = more q
      go false (suc p) q r more = absurd (omega arith)

  some-by-place : (ys : List (List ℕ)) → (place_in ys x ≡ 0 → ⊥) → none_of ys ≡ false
  some-by-place [] h = absurd (h refl)
  some-by-place (y ∷ ys) h = go (same_name x y) h (some-by-place ys)
    where
      go : (b : Bool) → (cond b 1 (later (place_in ys x)) ≡ 0 → ⊥) → ((place_in ys x ≡ 0 → ⊥) → none_of ys ≡ false) → (not b && none_of ys) ≡ false
      go true k more = refl
      go false k more = more (λ e. k (ap later e))

  -- built-ins clash with their own names only
  pub new-by-place : place_in built_ins x ≡ 0 → fresh x built_ins ≡ true
  new-by-place e = built_in-fresh x ∙ none-by-place built_ins e

  pub taken-by-place : (place_in built_ins x ≡ 0 → ⊥) → fresh x built_ins ≡ false
  taken-by-place h = built_in-fresh x ∙ some-by-place built_ins h

-- kinds of definitions
module _ (T : List ℕ) (r k : ℕ) (e : k ≡ kind T r) where
  not-unnamed : (k ≡ struct_kind → ⊥) → unnamed T r ≡ false
  not-unnamed n = go (unnamed T r) refl
    where
      go : (b : Bool) → unnamed T r ≡ b → b ≡ false
      go true i = absurd (n (e ∙ unnamed-struct T r i))
      go false i = refl

  pub own_definition : of_definition k ≡ true → (k ≡ struct_kind → ⊥) → true ≡ is_definition T r
  own_definition d n = rw (not-unnamed n, ← e, d)

  pub struct_definition : k ≡ struct_kind → not (unnamed T r) ≡ is_definition T r
  struct_definition d = rw (← e, d)

  pub no_definition : (k ≡ enum_kind → ⊥) → (k ≡ struct_kind → ⊥) → (k ≡ union_kind → ⊥) → (k ≡ alternate_kind → ⊥) → (k ≡ command_kind → ⊥) → false ≡ is_definition T r
  no_definition a b c d f = rw (← e, ne_eqb k enum_kind a, ne_eqb k struct_kind b, ne_eqb k union_kind c, ne_eqb k alternate_kind d, ne_eqb k command_kind f)
