-- Serves contracts: what the readers that call each other write and count. The count stays within what the nodes allow, whatever they hold.
use Rattle.std.specs.Prelude.{ℕ, suc, ◌+◌, ◌-◌, ◌*◌, ◌≤◌, ◌≡◌, Bool, true, cond, List, ◌++◌, eqb}
use Rattle.std.proofs.Math.Option.{Option, none, some}
use Rattle.grammar.specs.Limits.{chain_structs}
use Rattle.grammar.specs.Tree.{Json, Items, Fields}
use Rattle.grammar.specs.Keys.{keys_once, keys_once_i, keys_once_f}
use Rattle.grammar.specs.Serving.Machine.Message.{message}
use Rattle.rules.specs.Rows.{members}
use Rattle.rules.specs.Readings.{Typed}
use Rattle.rules.specs.Serving.ReadingOf.{plain_reading, items_reading, fields_reading}
use Rattle.text.specs.Nodes.{next, Holds, HoldsItems, HoldsFields}
use Rattle.children.specs.Index.{IndexedTable}
use Rattle.children.specs.Counts.{mandatory_in}
use Rattle.members.specs.Mandatory.{met}
use Rattle.readings.specs.Records.{ReadTold, ReadsAt}
use Rattle.readings.specs.declared.readings.Count.{Count}
use Rattle.readings.specs.declared.readings.Count.TheVariants.{Records, Nothing}

-- at most two records for each node below the one after node k
abbrev pub Within : List ℕ → ℕ → Count → Type 0
Within w k (Records n) = n ≤ 2 * suc k + 2 * (next w k - suc k)
Within w k Nothing = Unit {0}

pub record ReadsValue (S T m w ix old new : List ℕ) (k t f : ℕ) (passes : Bool) (left n : ℕ) (r : Count) : Type 0 where
  pub within : Within w k r
  pub reads : ReadsAt S T m w ix old new k t f passes left n r

-- at a type that is no alternate
pub record ReadsPlain (S T m w ix old new : List ℕ) (k t f : ℕ) (passes : Bool) (left n : ℕ) (r : Count) : Type 0 where
  pub within : Within w k r
  pub told : (j : Json) (l : ℕ) → IndexedTable S T ix → Holds message m w j l k → keys_once j ≡ true → l ≤ left → ReadTold old new n (plain_reading passes S T j t f) r

-- the elements from node i up to node e, each at the type t
pub record ItemsRead (S T m w ix old new : List ℕ) (i e t : ℕ) (passes : Bool) (left n : ℕ) (r : Count) : Type 0 where
  pub told : (js : Items) (l : ℕ) → IndexedTable S T ix → HoldsItems message m w js l i e → keys_once_i js ≡ true → l ≤ left → ReadTold old new n (items_reading passes S T js t) r

pub record ReadsItems (S T m w ix old new : List ℕ) (k t : ℕ) (passes : Bool) (left n : ℕ) (r : Count) : Type 0 where
  pub within : Within w k r
  pub reads : ItemsRead S T m w ix old new (suc k) (next w k) t passes left n r

-- the reading of the fields fs as the members ms, if the keys that mean a mandatory one, d before them and theirs, are as many as there are
unfoldable pub complete_reading : (passes : Bool) (S T ms : List ℕ) → ℕ → Fields → Option (List Typed)
complete_reading passes S T ms d fs = cond (eqb (d + met S T ms fs) (mandatory_in T ms)) (fields_reading passes S T fs ms) none

-- the fields from node i up to node e, each a member of one of two structs, after d mandatory ones
pub record FieldsRead (S T m w ix old new : List ℕ) (i e base branch : ℕ) (passes : Bool) (left n d : ℕ) (r : Count) : Type 0 where
  pub told : (fs : Fields) (l : ℕ) → IndexedTable S T ix → HoldsFields message m w fs l i e → keys_once_f fs ≡ true → l ≤ left
      → (ms bs : List ℕ) → members T chain_structs base ≡ some ms → members T chain_structs branch ≡ some bs
      → ReadTold old new n (complete_reading passes S T (ms ++ bs) d fs) r

pub record ReadsFields (S T m w ix old new : List ℕ) (k base branch : ℕ) (passes : Bool) (left n : ℕ) (r : Count) : Type 0 where
  pub within : Within w k r
  pub reads : FieldsRead S T m w ix old new (suc k) (next w k) base branch passes left n 0 r
