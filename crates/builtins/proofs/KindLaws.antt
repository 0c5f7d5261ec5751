-- The code's grid is that of the rules by computation; past its ends nothing is taken.
use Rattle.std.proofs.Common.{◌≡◌, ℕ, ◌-◌, ◌<◌, suc, false, [], ◌∷◌, get_or, ap, sym, ◌∙◌, arith}
use lib.ListN.{get_or-eq_default}
use Rattle.grammar.specs.Tree.{Kind}
use Rattle.rules.specs.Types.{any_type, column, grid, takes}
use denote.Enum.Bare.{sameb}
use Rattle.std.proofs.Common.{Bool, refl}
use Rattle.rules.specs.Types.{same_kind}
use Rattle.builtins.specs.Kinds.{kind_in}
use Rattle.builtins.specs.declared.json.JsonKind.{JsonKind}
use Rattle.builtins.specs.declared.json.JsonKind.TheVariants.{Object, Array, String, Number, Boolean, Null}
use Rattle.builtins.specs.contracts.json.JsonKind.{the_type}

-- kinds of the code are the same where those of the rules are
pub same_in : (j k : JsonKind) → sameb the_type j k ≡ same_kind (kind_in j) (kind_in k)
same_in Object k = elim k as (λ k. sameb the_type Object k ≡ same_kind (kind_in Object) (kind_in k)) [ Object ↦ refl | Array ↦ refl | String ↦ refl | Number ↦ refl | Boolean ↦ refl | Null ↦ refl ]
same_in Array k = elim k as (λ k. sameb the_type Array k ≡ same_kind (kind_in Array) (kind_in k)) [ Object ↦ refl | Array ↦ refl | String ↦ refl | Number ↦ refl | Boolean ↦ refl | Null ↦ refl ]
same_in String k = elim k as (λ k. sameb the_type String k ≡ same_kind (kind_in String) (kind_in k)) [ Object ↦ refl | Array ↦ refl | String ↦ refl | Number ↦ refl | Boolean ↦ refl | Null ↦ refl ]
same_in Number k = elim k as (λ k. sameb the_type Number k ≡ same_kind (kind_in Number) (kind_in k)) [ Object ↦ refl | Array ↦ refl | String ↦ refl | Number ↦ refl | Boolean ↦ refl | Null ↦ refl ]
same_in Boolean k = elim k as (λ k. sameb the_type Boolean k ≡ same_kind (kind_in Boolean) (kind_in k)) [ Object ↦ refl | Array ↦ refl | String ↦ refl | Number ↦ refl | Boolean ↦ refl | Null ↦ refl ]
same_in Null k = elim k as (λ k. sameb the_type Null k ≡ same_kind (kind_in Null) (kind_in k)) [ Object ↦ refl | Array ↦ refl | String ↦ refl | Number ↦ refl | Boolean ↦ refl | Null ↦ refl ]

module _ {b : ℕ} (k : Kind) where
  pub takes-zero : b ≡ 0 → false ≡ takes b k
  unfolding takes
  takes-zero z = rw z

  pub takes-past : any_type < b → false ≡ takes b k
  unfolding takes
  takes-past h = rw (get_or-eq_default ([] ∷ grid) [] {n = b} h)

  pub takes-entry : {c : ℕ} → c ≡ column k → (b ≡ 0 → ⊥) → get_or (get_or grid (b - 1) []) c false ≡ takes b k
  unfolding takes
  takes-entry e n =
      let z : b ≡ suc (b - 1) = omega arith in
      ap (λ (x : ℕ). get_or (get_or grid (b - 1) []) x false) e ∙ ap (λ (x : ℕ). get_or (get_or ([] ∷ grid) x []) (column k) false) (sym z)
