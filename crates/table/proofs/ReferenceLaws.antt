-- What each return of references.rt says of the references of a row.
-- A law for each return, over the numbers that were read; each puts the tests that led there into the definition.
use Prim.Native.Nat.{ℕ, ◌-◌, ◌≤◌, ◌<◌}
use mathlib.Core.Path.{◌≡◌, refl, sym, ◌∙◌}
use mathlib.Core.Bool.{Bool, true, false, not, ◌&&◌, ◌||◌, and-true, and-false, or-false}
use mathlib.Core.List.{List}
use native.Mathlib.Omega.{arith}
use lib.Dec.{eqb, leb}
use borrow.Author.Tests.{lt-ltb, le-ltb, le-leb, lt-leb, eq-eqb, ne_eqb, eqb-true, eqb-false}
use Rattle.rules.specs.Kinds.{enum_kind, struct_kind, member_kind, union_kind, branch_kind, alternate_kind, alternative_kind, command_kind}
use Rattle.rules.specs.Types.{first_row}
use Rattle.rules.specs.Rows.{kind, base, type_ref, array_mark, optional, union_base, discriminator, branch_struct, data_struct, allow_oob, returns, returns_array, unnamed, owns}
use Rattle.rules.specs.Sound.{to_struct, to_type, references_fit, member_linked, union_linked, data_linked, command_linked}
use Rattle.rules.proofs.TableRows.{unnamed-struct}
use Rattle.rules.proofs.First.{decided}

module _ (T : List ℕ) where
  -- links
  pub no_link : {l : ℕ} → l ≡ 0 → false ≡ to_struct T l
  no_link e = rw e

  module _ {l w : ℕ} (h : l ≡ 0 → ⊥) (p : w ≡ kind T (l - 1)) where
    pub no_struct : (w ≡ struct_kind → ⊥) → false ≡ to_struct T l
    no_struct n = rw (lt-ltb 0 l (omega arith), ← p, ne_eqb w struct_kind n)

    pub struct_is : w ≡ struct_kind → {b : Bool} → b ≡ unnamed T (l - 1) → not b ≡ to_struct T l
    struct_is q i = rw (lt-ltb 0 l (omega arith), ← p, eq-eqb w struct_kind q, i)

  -- types
  not-unnamed : (r : ℕ) → (kind T r ≡ struct_kind → ⊥) → unnamed T r ≡ false
  not-unnamed r n = decided (unnamed T r) (λ e. n (unnamed-struct T r e))

  pub built_in-type : {t : ℕ} → t < first_row → not (eqb t 0) ≡ to_type T t
  built_in-type {t} h = go (eqb t 0) refl
    where
      go : (b : Bool) → eqb t 0 ≡ b → not b ≡ to_type T t
      go true e = rw (eqb-true t 0 e)
      go false e = let n : t ≡ 0 → ⊥ = eqb-false t 0 e in rw (lt-ltb 0 t (omega arith), lt-ltb t first_row h)

  module _ {t w : ℕ} (h : first_row ≤ t) (p : w ≡ kind T (t - first_row)) where
    -- the kind of a type
    abbrev of_type : Bool
    of_type = eqb w enum_kind || eqb w struct_kind || eqb w union_kind || eqb w alternate_kind

    row_type : to_type T t ≡ of_type && not (unnamed T (t - first_row))
    row_type = rw (lt-ltb 0 t (omega arith), le-ltb t first_row h, le-leb first_row t h, p)

    pub other-type : of_type ≡ true → (w ≡ struct_kind → ⊥) → true ≡ to_type T t
    other-type q n = sym (row_type ∙ rw (q, not-unnamed (t - first_row) (rw p at n)))

    pub struct_type : w ≡ struct_kind → {b : Bool} → b ≡ unnamed T (t - first_row) → not b ≡ to_type T t
    struct_type q i = sym (row_type ∙ rw (q, i))

    pub no_type : (w ≡ enum_kind → ⊥) × (w ≡ struct_kind → ⊥) × (w ≡ union_kind → ⊥) × (w ≡ alternate_kind → ⊥) → false ≡ to_type T t
    no_type n = sym (row_type ∙ rw (ne_eqb w enum_kind n.0, ne_eqb w struct_kind n.1, ne_eqb w union_kind n.2, ne_eqb w alternate_kind n.3))

module _ (T : List ℕ) (r : ℕ) where
  -- a member: its type and two flags
  module _ {t : ℕ} (p : t ≡ type_ref T r) where
    pub member-no_type : to_type T t ≡ false → false ≡ member_linked T r
    unfolding member_linked
    member-no_type e = rw (← p, e)

    module _ (e : to_type T t ≡ true) {a : ℕ} (q : a ≡ array_mark T r) where
      pub member_no_flag : 1 < a → false ≡ member_linked T r
      unfolding member_linked
      member_no_flag h = rw (← p, e, ← q, lt-leb a 1 h)

      pub member_is : a ≤ 1 → {o : ℕ} → o ≡ optional T r → leb o 1 ≡ member_linked T r
      unfolding member_linked
      member_is h o = rw (← p, e, ← q, le-leb a 1 h, o)

  -- a union: its base and its discriminator
  module _ {l : ℕ} (p : l ≡ union_base T r) where
    pub union_no_base : owns T r || to_struct T l ≡ false → false ≡ union_linked T r
    unfolding union_linked
    union_no_base e = rw (← p, e)

    module _ (e : owns T r || to_struct T l ≡ true) {d : ℕ} (q : d ≡ discriminator T r) where
      pub union_no_discriminator : d ≡ 0 → false ≡ union_linked T r
      unfolding union_linked
      union_no_discriminator z = rw (← p, e, ← q, z)

      pub union-is : (d ≡ 0 → ⊥) → {k : ℕ} → k ≡ kind T (d - 1) → eqb k member_kind ≡ union_linked T r
      unfolding union_linked
      union-is n k = rw (← p, e, ← q, lt-ltb 0 d (omega arith), k)

  -- a command: its arguments, its flag and what it returns
  module _ {l : ℕ} (p : l ≡ data_struct T r) where
    pub arguments-none : l ≡ 0 → true ≡ data_linked T r
    unfolding data_linked
    arguments-none e = rw (← p, e)

    pub arguments-link : (l ≡ 0 → ⊥) → {b : Bool} → b ≡ owns T r || to_struct T l → b ≡ data_linked T r
    unfolding data_linked
    arguments-link n q = rw (← p, ne_eqb l 0 n) q

  pub command_no_arguments : data_linked T r ≡ false → false ≡ command_linked T r
  unfolding command_linked
  command_no_arguments e = rw e

  module _ (e : data_linked T r ≡ true) {o : ℕ} (p : o ≡ allow_oob T r) where
    pub command_no_flag : 1 < o → false ≡ command_linked T r
    unfolding command_linked
    command_no_flag h = rw (e, ← p, lt-leb o 1 h)

    module _ (h : o ≤ 1) {t a : ℕ} (q : t ≡ returns T r) (u : a ≡ returns_array T r) where
      pub command-nothing : t ≡ 0 → eqb a 0 ≡ command_linked T r
      unfolding command_linked
      command-nothing z = rw (e, ← p, le-leb o 1 h, ← q, ← u, z) (sym (or-false (eqb a 0)))

      pub command-no_array : (t ≡ 0 → ⊥) → 1 < a → false ≡ command_linked T r
      unfolding command_linked
      command-no_array n k = rw (e, ← p, le-leb o 1 h, ← q, ← u, ne_eqb t 0 n, lt-leb a 1 k) (sym (and-false (to_type T t)))

      pub command-is : (t ≡ 0 → ⊥) → a ≤ 1 → {b : Bool} → b ≡ to_type T t → b ≡ command_linked T r
      unfolding command_linked
      command-is n k f = rw (e, ← p, le-leb o 1 h, ← q, ← u, ne_eqb t 0 n, le-leb a 1 k) (f ∙ sym (and-true (to_type T t)))

  -- a row, by its kind
  module _ {k : ℕ} (p : k ≡ kind T r) where
    module _ (e : k ≡ struct_kind) {l : ℕ} (q : l ≡ base T r) where
      pub refers-none : l ≡ 0 → true ≡ references_fit T r
      refers-none z = rw (← p, ← q, e, z)

      pub refers-base : (l ≡ 0 → ⊥) → {b : Bool} → b ≡ to_struct T l → b ≡ references_fit T r
      refers-base n f = rw (← p, ← q, e, ne_eqb l 0 n) (simp and-true f)

    pub refers-member : k ≡ member_kind → {b : Bool} → b ≡ member_linked T r → b ≡ references_fit T r
    unfolding member_linked
    refers-member e f = rw (← p, e) (simp and-true f)

    pub refers-union : k ≡ union_kind → {b : Bool} → b ≡ union_linked T r → b ≡ references_fit T r
    unfolding union_linked
    refers-union e f = rw (← p, e) (simp and-true f)

    pub refers-branch : k ≡ branch_kind → {l : ℕ} → l ≡ branch_struct T r → {b : Bool} → b ≡ to_struct T l → b ≡ references_fit T r
    refers-branch e q f = rw (← p, ← q, e) (simp and-true f)

    pub refers-alternative : k ≡ alternative_kind → {t : ℕ} → t ≡ type_ref T r → {b : Bool} → b ≡ to_type T t → b ≡ references_fit T r
    refers-alternative e q f = rw (← p, ← q, e) (simp and-true f)

    pub refers-command : k ≡ command_kind → {b : Bool} → b ≡ command_linked T r → b ≡ references_fit T r
    unfolding command_linked data_linked
    refers-command e f = rw (← p, e) f

    pub refers-not : (k ≡ struct_kind → ⊥) × (k ≡ member_kind → ⊥) × (k ≡ union_kind → ⊥) × (k ≡ branch_kind → ⊥) × (k ≡ alternative_kind → ⊥) × (k ≡ command_kind → ⊥) → true ≡ references_fit T r
    refers-not n = rw (← p, ne_eqb k struct_kind n.0, ne_eqb k member_kind n.1, ne_eqb k union_kind n.2, ne_eqb k branch_kind n.3, ne_eqb k alternative_kind n.4, ne_eqb k command_kind n.5)
