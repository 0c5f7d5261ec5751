-- Serves contracts: a child looked up along a chain of the index.
use Rattle.std.specs.Prelude.{ℕ, suc, ◌≤◌, ◌≡◌, Bool, true, cond, ◌&&◌, List, [], ◌∷◌, eqb, length, get_or}
use Rattle.grammar.specs.Notation.{same}
use Rattle.grammar.specs.Limits.{table_rows}
use Rattle.buckets.specs.Buckets.{Chain}
use Rattle.strings.specs.Hashes.{hash_of}
use Rattle.rules.specs.Rows.{children, name_of}
use Rattle.rules.specs.SchemaTable.{member_in}
use Rattle.rows.specs.Index.{itself}
use Rattle.children.specs.Index.{links_of, owners_of, is_long, IndexedTable}
use Rattle.lookups.specs.Lookups.{MeaningAt}

-- the hash of what the key or string at node k means
pub record MeaningHash (m w : List ℕ) (k x : ℕ) : Type 0 where
  pub told : (cs : List ℕ) → MeaningAt m w k cs → x ≡ hash_of cs

-- row c is named cs, and r is noted as its owner
abbrev pub named_in : List ℕ → List ℕ → List ℕ → List ℕ → ℕ → ℕ → Bool
named_in S T cs owners r c = eqb (get_or owners c 0) r && same cs (name_of S T c)

pub record RowMeant (S T m w owners : List ℕ) (r k c : ℕ) (b : Bool) : Type 0 where
  pub told : (cs : List ℕ) → MeaningAt m w k cs → b ≡ named_in S T cs owners r c

-- the link of the first row of a list that is
unfoldable pub first_named : List ℕ → List ℕ → List ℕ → List ℕ → ℕ → List ℕ → ℕ
first_named S T cs owners r [] = 0
first_named S T cs owners r (c ∷ rs) = cond (named_in S T cs owners r c) (suc c) (first_named S T cs owners r rs)

-- and of those that follow the word `head`
pub record ChildListed (S T m w ix : List ℕ) (head r k x : ℕ) : Type 0 where
  pub told : (cs : List ℕ) → MeaningAt m w k cs → (rs : List ℕ) → Chain itself (links_of ix) head rs → length rs ≤ table_rows → first_named S T cs (owners_of ix) r rs ≡ x

-- the link of the child of row r that is meant, where the list is long
pub record ChildIndexed (S T m w ix : List ℕ) (r k x : ℕ) : Type 0 where
  pub told : is_long T r ≡ true → (cs : List ℕ) → IndexedTable S T ix → MeaningAt m w k cs → x ≡ member_in S T cs (children T r)
