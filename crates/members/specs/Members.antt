-- Serves contracts: what is found of the members that an object has, for every object that the nodes hold.
use Rattle.std.specs.Prelude.{ℕ, suc, ◌-◌, ◌≡◌, true, List, ◌++◌}
use Rattle.std.proofs.Math.Option.{none, some}
use Rattle.grammar.specs.Limits.{chain_structs}
use Rattle.grammar.specs.Tree.{Fields}
use Rattle.grammar.specs.Notation.{same, apart}
use Rattle.grammar.specs.Keys.{keys_of}
use Rattle.grammar.specs.Serving.Machine.Message.{message}
use Rattle.rules.specs.Kinds.{union_kind}
use Rattle.rules.specs.Values.{value_at}
use Rattle.rules.specs.Rows.{kind, union_base, discriminator, members, name_of}
use Rattle.rules.specs.Rules.{names_of}
use Rattle.rules.specs.SchemaTable.{member_in}
use Rattle.rules.specs.Serving.ReadingOf.{chosen, members_at}
use Rattle.text.specs.Nodes.{next, HoldsFields}
use Rattle.children.specs.Index.{IndexedTable}
use Rattle.lookups.specs.Lookups.{MeaningAt}
use Rattle.members.specs.declared.objects.Structs.{Structs}
use Rattle.members.specs.declared.objects.Structs.TheVariants.{Links, NoObject}

-- the object at node k has these fields, and no key twice
pub record FieldsAt (m w : List ℕ) (k : ℕ) (fs : Fields) : Type 0 where
  pub levels : ℕ
  pub holds : HoldsFields message m w fs levels (suc k) (next w k)
  pub once : apart same (keys_of fs) ≡ true

-- the link of the member that is meant
pub record MemberMeant (S T m w ix : List ℕ) (left link k x : ℕ) : Type 0 where
  pub told : (cs : List ℕ) → IndexedTable S T ix → MeaningAt m w k cs → (ms : List ℕ) → members T left link ≡ some ms → x ≡ member_in S T cs ms

pub record FieldMember (S T m w ix : List ℕ) (k base branch x : ℕ) : Type 0 where
  pub told : (cs : List ℕ) → IndexedTable S T ix → MeaningAt m w k cs → (ms bs : List ℕ) → members T chain_structs base ≡ some ms → members T chain_structs branch ≡ some bs
      → x ≡ member_in S T cs (ms ++ bs)

-- the members of the struct with link c are those that the object adds to the base's at the union of row r
pub record BranchFound (S T : List ℕ) (r c : ℕ) (fs : Fields) : Type 0 where
  pub added : List ℕ
  pub added_is : members T chain_structs c ≡ some added
  pub chosen_is : chosen S T r (value_at (name_of S T (discriminator T r - 1)) fs) ≡ some added
  pub names_apart : (ms : List ℕ) → members T chain_structs (union_base T r) ≡ some ms → apart same (names_of S T (ms ++ added)) ≡ true

abbrev pub BranchTold : (S T : List ℕ) (r : ℕ) → Fields → Structs → Type 0
BranchTold S T r fs (Links b c) = (b ≡ union_base T r) × BranchFound S T r c fs
BranchTold S T r fs NoObject = chosen S T r (value_at (name_of S T (discriminator T r - 1)) fs) ≡ none

pub record BranchOf (S T m w ix : List ℕ) (r k : ℕ) (x : Structs) : Type 0 where
  pub told : (fs : Fields) → IndexedTable S T ix → kind T r ≡ union_kind → FieldsAt m w k fs → BranchTold S T r fs x

-- the members at the type reference t are those of the structs with links b and c, or there are none
pub record TwoStructs (S T : List ℕ) (t b c : ℕ) (fs : Fields) : Type 0 where
  pub base : List ℕ
  pub branch : List ℕ
  pub base_is : members T chain_structs b ≡ some base
  pub branch_is : members T chain_structs c ≡ some branch
  pub both : members_at S T t fs ≡ some (base ++ branch)
  pub names_apart : apart same (names_of S T (base ++ branch)) ≡ true

abbrev pub StructsTold : (S T : List ℕ) (t : ℕ) → Fields → Structs → Type 0
StructsTold S T t fs (Links b c) = TwoStructs S T t b c fs
StructsTold S T t fs NoObject = members_at S T t fs ≡ none

pub record StructsAt (S T m w ix : List ℕ) (k t : ℕ) (x : Structs) : Type 0 where
  pub told : (fs : Fields) → IndexedTable S T ix → FieldsAt m w k fs → StructsTold S T t fs x
