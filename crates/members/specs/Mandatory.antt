-- Serves contracts: how many mandatory members structs have, and how many keys of an object mean one.
use Rattle.std.specs.Prelude.{ℕ, zero, suc, ◌+◌, ◌*◌, ◌^◌, ◌≤◌, ◌≡◌, List, [], ◌∷◌, ◌++◌}
use Rattle.std.proofs.Math.Option.{some}
use Rattle.grammar.specs.Limits.{chain_structs}
use Rattle.grammar.specs.Tree.{Fields}
use Rattle.grammar.specs.Tree.Fields.{no_fields, field}
use Rattle.rules.specs.Rows.{members}
use Rattle.rules.specs.SchemaTable.{member_in}
use Rattle.children.specs.Index.{IndexedTable}
use Rattle.children.specs.Counts.{mandatory_in}

-- 1 if the link is to a mandatory member, else 0
unfoldable pub met_by : List ℕ → ℕ → ℕ
met_by T zero = 0
met_by T (suc c) = mandatory_in T (c ∷ [])

-- how many fields mean a mandatory one of the members ms
unfoldable pub met : (S T ms : List ℕ) → Fields → ℕ
met S T ms no_fields = 0
met S T ms (field a e key j fs) = met_by T (member_in S T key ms) + met S T ms fs

-- how many mandatory members the struct with a link has
pub record MandatoryCount (T ix : List ℕ) (left link x : ℕ) : Type 0 where
  pub small : x ≤ left * 2 ^ 32
  pub told : (S : List ℕ) → IndexedTable S T ix → (ms : List ℕ) → members T left link ≡ some ms → x ≡ mandatory_in T ms

-- and two structs
pub record MandatoryMembers (T ix : List ℕ) (base branch x : ℕ) : Type 0 where
  pub told : (S : List ℕ) → IndexedTable S T ix → (ms bs : List ℕ) → members T chain_structs base ≡ some ms → members T chain_structs branch ≡ some bs
      → x ≡ mandatory_in T (ms ++ bs)
