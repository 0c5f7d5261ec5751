-- Serves contracts: the children of a row that keys and strings mean, and how many of them are mandatory.
use Rattle.std.specs.Prelude.{ℕ, ◌^◌, ◌≤◌, ◌≡◌, Bool, true, List}
use Rattle.grammar.specs.Notation.{same}
use Rattle.rules.specs.Rows.{children, name_of}
use Rattle.rules.specs.SchemaTable.{member_in}
use Rattle.rules.specs.Sound.{sound}
use Rattle.lookups.specs.Lookups.{MeaningAt}
use Rattle.children.specs.Counts.{mandatory_in}
use Rattle.children.specs.Index.{IndexedTable}

-- row c has that name
pub record RowNamed (S T name : List ℕ) (c : ℕ) (b : Bool) : Type 0 where
  pub told : sound S T ≡ true → b ≡ same name (name_of S T c)

-- the link of the child that has that name
pub record ChildNamed (S T name : List ℕ) (r x : ℕ) : Type 0 where
  pub told : sound S T ≡ true → x ≡ member_in S T name (children T r)

-- the link of the child that is meant, where each is looked at in turn
pub record ChildScanned (S T m w : List ℕ) (r k x : ℕ) : Type 0 where
  pub told : (cs : List ℕ) → sound S T ≡ true → MeaningAt m w k cs → x ≡ member_in S T cs (children T r)

-- and with an index
pub record ChildMeant (S T m w ix : List ℕ) (r k x : ℕ) : Type 0 where
  pub told : (cs : List ℕ) → IndexedTable S T ix → MeaningAt m w k cs → x ≡ member_in S T cs (children T r)

-- how many children are mandatory
pub record OwnMandatory (T ix : List ℕ) (r x : ℕ) : Type 0 where
  pub small : x ≤ 2 ^ 32
  pub told : (S : List ℕ) → IndexedTable S T ix → x ≡ mandatory_in T (children T r)
