-- Serves contracts: rows as they are first written, before names that refer become links; and that every name of a schema's definitions stands within its bytes.
use Rattle.std.specs.Prelude.{ℕ, ◌+◌, ◌*◌, ◌≤◌, ◌<◌, List, [], ◌∷◌, length}
use Rattle.std.proofs.Math.Option.{Option, none, some}
use Rattle.grammar.specs.Limits.{schema_bytes}
use Rattle.rules.specs.Definitions.{Name, TypeText, Member, Data, Pair, Body, Definition}
use Rattle.rules.specs.Definitions.Data.{inline, named}
use Rattle.rules.specs.Definitions.Body.{enum, struct, union, alternate, command}
use Rattle.rules.specs.SchemaTable.{table_from}

-- a name that refers, as one word: its start and its size
abbrev pub packed : Name → ℕ
packed n = schema_bytes * n.start + n.size

-- the rows from row r on, with such words in place of links and references
unfoldable pub raw_from : ℕ → List Definition → List ℕ
raw_from r ds = table_from packed packed (λ _ n. packed n) r ds

-- a property of every element, and of what may be absent
abbrev pub Every : {A : Type 0} → (A → Type 0) → List A → Type 0
Every P [] = Unit {0}
Every P (x ∷ xs) = P x × Every P xs

abbrev pub IfThere : {A : Type 0} → (A → Type 0) → Option A → Type 0
IfThere P none = Unit {0}
IfThere P (some x) = P x

-- of every name of definitions, those that refer included
module _ (P : Name → Type 0) where
  abbrev pub TypeNames : TypeText → Type 0
  TypeNames t = P t.name

  abbrev pub MemberNames : Member → Type 0
  MemberNames m = P m.name × TypeNames m.type

  abbrev pub PairNames : Pair → Type 0
  PairNames p = P p.name × P p.type

  abbrev pub DataNames : Data → Type 0
  DataNames (inline ms) = Every MemberNames ms
  DataNames (named n) = P n

  abbrev pub BodyNames : Body → Type 0
  BodyNames (enum vs) = Every P vs
  BodyNames (struct b ms) = IfThere P b × Every MemberNames ms
  BodyNames (union b discriminator bs) = DataNames b × P discriminator × Every PairNames bs
  BodyNames (alternate alts) = Every PairNames alts
  BodyNames (command a t oob) = IfThere DataNames a × IfThere TypeNames t

  abbrev pub EveryName : List Definition → Type 0
  EveryName ds = Every (λ (d : Definition). P d.name × BodyNames d.body) ds

-- a name stands behind a quote and within the schema
pub record Spans (S : List ℕ) (n : Name) : Type 0 where
  pub behind : 0 < n.start
  pub within : n.start + n.size ≤ length S
