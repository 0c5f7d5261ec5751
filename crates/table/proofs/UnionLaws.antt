-- Rule 9 of a row: what each return of unions.rt says of a union's discriminator and of its branches.
-- Where the base's chain ends there is a list of its members, and what the walks say of it is what the rule says.
use Prim.Native.Nat.{ℕ, zero, suc, ◌-◌, ◌≤◌, ◌<◌}
use mathlib.Core.Path.{◌≡◌, refl, sym, ap, ap₂, ◌∙◌}
use mathlib.Core.Bool.{Bool, true, false, ◌&&◌, and_assoc}
use mathlib.Core.List.{List}
use mathlib.Core.Option.{some}
use native.Mathlib.Omega.{arith}
use lib.Dec.{eqb, ltb, eqb-zero-suc, eqb-suc-suc}
use borrow.Author.Tests.{lt-ltb, le-leb, lt-leb, eq-eqb, ne_eqb, ltb-true, leb-true}
use Rattle.grammar.specs.Limits.{chain_structs}
use Rattle.grammar.specs.Notation.{all}
use Rattle.rules.specs.Kinds.{enum_kind}
use Rattle.rules.specs.Types.{first_row}
use Rattle.rules.specs.Rows.{kind, type_ref, array_mark, optional, union_base, branch_count, discriminator, branch_struct, children, members, name_of}
use Rattle.rules.specs.Rules.{any, is, names_of, no_clash, discriminator_row, discriminator_enum, discriminator_fits, branch_fits, union_fits}
use Rattle.rules.proofs.Lists.{and_left, and_right}
use Rattle.table.specs.Chains.{chain_ends, has_child, is_member, members_apart}
use Rattle.table.specs.declared.chains.Against.TheVariants.{Members}
use Rattle.table.specs.RuleParts.{can_discriminate, discriminates, branch_new}
use Rattle.rows.proofs.ListLaws.{all_same, any_same, any_none, is_guard}
use Rattle.table.proofs.ChainLaws.{ends_is, is_member-is, members_apart-is}

-- a row that can discriminate: mandatory, no array, of an enum type
module _ (T : List ℕ) (d : ℕ) {o : ℕ} (p : o ≡ optional T d) where
  pub optional-fails : (o ≡ 0 → ⊥) → false ≡ can_discriminate T d
  unfolding can_discriminate
  optional-fails n = rw (← p, ne_eqb o 0 n)

  module _ (z : o ≡ 0) {a : ℕ} (q : a ≡ array_mark T d) where
    pub array-fails : (a ≡ 0 → ⊥) → false ≡ can_discriminate T d
    unfolding can_discriminate
    array-fails n = rw (← p, eq-eqb o 0 z, ← q, ne_eqb a 0 n)

    module _ (y : a ≡ 0) {t : ℕ} (u : t ≡ type_ref T d) where
      pub built_in-fails : t < first_row → false ≡ can_discriminate T d
      unfolding can_discriminate
      built_in-fails h = rw (← p, eq-eqb o 0 z, ← q, eq-eqb a 0 y, ← u, lt-leb first_row t h)

      pub enum-discriminates : first_row ≤ t → {k : ℕ} → k ≡ kind T (t - first_row) → eqb k enum_kind ≡ can_discriminate T d
      unfolding can_discriminate
      enum-discriminates h k = rw (← p, eq-eqb o 0 z, ← q, eq-eqb a 0 y, ← u, le-leb first_row t h, k)

-- the discriminator of a union: one that can discriminate, and a member of the base
module _ (T : List ℕ) (r : ℕ) {d : ℕ} (p : d ≡ discriminator T r) where
  pub discriminator-none : d ≡ 0 → false ≡ discriminates T r
  unfolding discriminates
  discriminator-none z = rw (← p, z)

  module _ (n : d ≡ 0 → ⊥) {l : ℕ} (q : l ≡ union_base T r) where
    pub discriminator_strange : is_member T chain_structs l (d - 1) ≡ false → false ≡ discriminates T r
    unfolding discriminates
    discriminator_strange e = rw (← p, lt-ltb 0 d (omega arith), ← q, e)

    pub discriminator-is : is_member T chain_structs l (d - 1) ≡ true → {b : Bool} → b ≡ can_discriminate T (d - 1) → b ≡ discriminates T r
    unfolding discriminates
    discriminator-is e t = rw (← p, lt-ltb 0 d (omega arith), ← q, e) t

module _ (T : List ℕ) (r : ℕ) where
  pub discriminator-linked : discriminates T r ≡ true → 0 < discriminator T r
  unfolding discriminates
  discriminator-linked e = ltb-true 0 (discriminator T r) (search (and_left, and_right))

  pub discriminator-type : {d t : ℕ} → d ≡ discriminator T r → t ≡ type_ref T (d - 1) → discriminates T r ≡ true → first_row ≤ t
  unfolding discriminates can_discriminate
  discriminator-type {d} {t} p q e =
      let h : first_row ≤ type_ref T (discriminator_row T r) = leb-true first_row (type_ref T (discriminator_row T r)) (search (and_left, and_right)) in
      rw (q, p) h

  pub discriminates-is : (ms : List ℕ) → members T chain_structs (union_base T r) ≡ some ms → discriminates T r ≡ discriminator_fits T r ms
  unfolding discriminates can_discriminate
  discriminates-is ms e = go (discriminator T r) refl
    where
      go : (d : ℕ) → discriminator T r ≡ d → discriminates T r ≡ discriminator_fits T r ms
      go zero q = rw (q, any_none (λ m. eqb 0 (suc m)) ms (λ m. eqb-zero-suc m))
      go (suc d) q =
          let z : suc d - 1 ≡ d = omega arith in
          let x : any (λ m. eqb (suc d) (suc m)) ms ≡ any (eqb d) ms = any_same _ (eqb d) ms (λ m. eqb-suc-suc d m) in
          rw (q, z, lt-ltb 0 (suc d) (omega arith), is_member-is T d chain_structs (union_base T r) ms e, x) (simp and_assoc)

-- a branch: named by a value of the enum, and its struct's members are new
module _ (S T : List ℕ) where
  module _ (e base b : ℕ) where
    pub branch-unnamed : has_child S T e (name_of S T b) ≡ false → false ≡ branch_new S T e base b
    unfolding branch_new
    branch-unnamed t = rw t

    module _ (t : has_child S T e (name_of S T b) ≡ true) {l : ℕ} (p : l ≡ branch_struct T b) where
      pub branch_endless : chain_ends T chain_structs l ≡ false → false ≡ branch_new S T e base b
      unfolding branch_new
      branch_endless f = rw (t, ← p, f)

      pub branch_is : chain_ends T chain_structs l ≡ true → {a : Bool} → a ≡ members_apart S T (Members base) chain_structs l → a ≡ branch_new S T e base b
      unfolding branch_new
      branch_is f m = rw (t, ← p, f) m

  -- of a union whose base has members
  module _ (r base : ℕ) (ms : List ℕ) (m : members T chain_structs base ≡ some ms) where
    struct_apart : (l : ℕ) → chain_ends T chain_structs l && members_apart S T (Members base) chain_structs l
        ≡ is (members T chain_structs l) (λ bs. no_clash (names_of S T ms) (names_of S T bs))
    struct_apart l =
        rw (ends_is T chain_structs l)
        (is_guard (members T chain_structs l) _ (members_apart S T (Members base) chain_structs l) (λ bs q. members_apart-is S T base chain_structs l ms bs m q))

    branch_fits-is : (b : ℕ) → branch_new S T (discriminator_enum T r) base b ≡ branch_fits S T r ms b
    unfolding branch_new has_child
    branch_fits-is b = rw (and_assoc, struct_apart (branch_struct T b))

  -- a union: some branch, a chain that ends, a discriminator that fits and branches that fit
  pub union_fits-is : (r : ℕ) → union_fits S T r ≡ ltb 0 (branch_count T r) && (chain_ends T chain_structs (union_base T r)
      && (discriminates T r && all (branch_new S T (discriminator_enum T r) (union_base T r)) (children T r)))
  union_fits-is r =
      let fits : Bool = discriminates T r && all (branch_new S T (discriminator_enum T r) (union_base T r)) (children T r) in
      ap (λ (t : Bool). ltb 0 (branch_count T r) && t)
      (sym (rw (ends_is T chain_structs (union_base T r)) (is_guard (members T chain_structs (union_base T r)) _ fits
      (λ ms m. ap₂ ◌&&◌ (discriminates-is T r ms m)
      (all_same (branch_new S T (discriminator_enum T r) (union_base T r)) (branch_fits S T r ms) (children T r) (branch_fits-is r (union_base T r) ms m))))))

  module _ (r : ℕ) {n : ℕ} (p : n ≡ branch_count T r) where
    pub union_empty : n ≡ 0 → false ≡ union_fits S T r
    union_empty z = rw (← p, z)

    module _ (h : n ≡ 0 → ⊥) {base : ℕ} (q : base ≡ union_base T r) where
      some-branch : union_fits S T r ≡ chain_ends T chain_structs base && (discriminates T r && all (branch_new S T (discriminator_enum T r) base) (children T r))
      some-branch = union_fits-is r ∙ rw (← p, lt-ltb 0 n (omega arith), ← q)

      pub union_endless : chain_ends T chain_structs base ≡ false → false ≡ union_fits S T r
      union_endless e = sym (some-branch ∙ rw e)

      pub union_undiscriminated : chain_ends T chain_structs base ≡ true → discriminates T r ≡ false → false ≡ union_fits S T r
      union_undiscriminated e t = sym (some-branch ∙ rw (e, t))

      pub union-is : chain_ends T chain_structs base ≡ true → discriminates T r ≡ true → {d t : ℕ} → d ≡ discriminator T r → t ≡ type_ref T (d - 1)
          → {b : Bool} → b ≡ all (branch_new S T (t - first_row) base) (children T r) → b ≡ union_fits S T r
      union-is e t {d} u v f = f ∙ sym (some-branch ∙ rw (e, t, ← u, ← v))
