-- Reference, Schema answers and Places: when each refusal applies, in which order they are judged, its place, and the whole outcome: the first that applies, the count, and every lent word.
use Rattle.std.specs.Prelude.{ℕ, ◌-◌, ◌/◌, ◌<◌, ◌≡◌, Bool, false, List, [], ◌∷◌, ◌++◌, length, replicate}
use Rattle.std.proofs.Math.Option.{none, some}
use Rattle.grammar.specs.Limits.{schema_bytes, schema_levels, table_rows, row_words}
use Rattle.grammar.specs.Tree.{Items}
use Rattle.grammar.specs.SchemaText.{SchemaText, schema_lexis}
use Rattle.grammar.specs.Starts.{Longest}
use Rattle.grammar.specs.Keys.{keys_once_i, RepeatsI, Earliest}
use Rattle.rules.specs.declared.SchemaRefusal.{SchemaRefusal}
use Rattle.rules.specs.declared.SchemaRefusal.TheVariants.{TooLong, NotText, RepeatedKey, NotDefinitions, BadName, RepeatedName, UnknownName, BadChain, BadUnion, BadAlternate, BadReturn, TooManyRows, NoRoom}
use Rattle.rules.specs.declared.SchemaAnswer.{SchemaAnswer}
use Rattle.rules.specs.declared.SchemaAnswer.TheVariants.{Accepted, Refused}
use Rattle.rules.specs.Definitions.{Definition, definitions}
use Rattle.rules.specs.Rows.{row_count}
use Rattle.rules.specs.Rules.{good_names, distinct_names, good_chains, good_unions, good_alternates, good_returns}
use Rattle.rules.specs.SchemaTable.{table, all_refer}
use Rattle.rules.specs.Refusals.{FirstOf}

-- the numbers, as they are shown
abbrev pub refusal_number : SchemaRefusal → ℕ
refusal_number TooLong = 1
refusal_number NotText = 2
refusal_number RepeatedKey = 3
refusal_number NotDefinitions = 4
refusal_number BadName = 5
refusal_number RepeatedName = 6
refusal_number UnknownName = 7
refusal_number BadChain = 8
refusal_number BadUnion = 9
refusal_number BadAlternate = 10
refusal_number BadReturn = 11
refusal_number TooManyRows = 12
refusal_number NoRoom = 13

-- the order in which a schema is judged
abbrev pub schema_order : List SchemaRefusal
schema_order =
    TooLong ∷ NotText ∷ RepeatedKey ∷ NotDefinitions ∷ BadName ∷ RepeatedName ∷ UnknownName ∷ BadChain ∷ BadUnion ∷ BadAlternate ∷ BadReturn ∷ TooManyRows ∷ NoRoom ∷ []

-- the three numbers of an answer: accepted 0, the row count and 0; refused the number, 0 and the place
abbrev pub answer_number : SchemaAnswer → ℕ
answer_number (Accepted n) = 0
answer_number (Refused x p) = refusal_number x

abbrev pub answer_rows : SchemaAnswer → ℕ
answer_rows (Accepted n) = n
answer_rows (Refused x p) = 0

abbrev pub answer_place : SchemaAnswer → ℕ
answer_place (Accepted n) = 0
answer_place (Refused x p) = p

-- the bytes are schema text, and the definitions in it are these
pub record Says (S : List ℕ) (ds : List Definition) : Type 0 where
  pub objects : Items
  pub is_text : SchemaText S objects
  pub keeps_keys : definitions objects ≡ some ds

-- the definitions of the schema break a rule of their table
abbrev pub Breaks : (List ℕ → List ℕ → Bool) → List ℕ → Type 0
Breaks rule S = (ds : List Definition) × Says S ds × (rule S (table S ds) ≡ false)

-- When each number applies to the schema S and a room of so many words: the reference's table, row by row.
abbrev pub SchemaApplies : SchemaRefusal → List ℕ → ℕ → Type 0
SchemaApplies TooLong S room = schema_bytes < length S
SchemaApplies NotText S room = (objects : Items) → SchemaText S objects → ⊥
SchemaApplies RepeatedKey S room = (objects : Items) × SchemaText S objects × (keys_once_i objects ≡ false)
SchemaApplies NotDefinitions S room = (objects : Items) × SchemaText S objects × (definitions objects ≡ none)
SchemaApplies BadName S room = Breaks good_names S
SchemaApplies RepeatedName S room = Breaks distinct_names S
SchemaApplies UnknownName S room = (ds : List Definition) × Says S ds × (all_refer S ds ≡ false)
SchemaApplies BadChain S room = Breaks good_chains S
SchemaApplies BadUnion S room = Breaks good_unions S
SchemaApplies BadAlternate S room = Breaks good_alternates S
SchemaApplies BadReturn S room = Breaks good_returns S
SchemaApplies TooManyRows S room = (ds : List Definition) × Says S ds × (table_rows < row_count (table S ds))
SchemaApplies NoRoom S room = (ds : List Definition) × Says S ds × (room / row_words < row_count (table S ds))

-- Reference, Places: the length of the longest start that some schema text within the levels has; the opening quote of the earliest key that repeats one before it in its object; any
-- other refusal points nowhere.
abbrev pub SchemaPlace : SchemaRefusal → List ℕ → ℕ → Type 0
SchemaPlace TooLong S p = p ≡ 0
SchemaPlace NotText S p = Longest schema_lexis schema_levels S p
SchemaPlace RepeatedKey S p = (objects : Items) × SchemaText S objects × Earliest (RepeatsI objects) p
SchemaPlace NotDefinitions S p = p ≡ 0
SchemaPlace BadName S p = p ≡ 0
SchemaPlace RepeatedName S p = p ≡ 0
SchemaPlace UnknownName S p = p ≡ 0
SchemaPlace BadChain S p = p ≡ 0
SchemaPlace BadUnion S p = p ≡ 0
SchemaPlace BadAlternate S p = p ≡ 0
SchemaPlace BadReturn S p = p ≡ 0
SchemaPlace TooManyRows S p = p ≡ 0
SchemaPlace NoRoom S p = p ≡ 0

-- The outcome: the answer, and the lent words after the call. The first refusal that applies, with its place, and all words 0; or none, the table, and 0 after it.
pub data SchemaOutcome (S : List ℕ) (room : ℕ) (answer : SchemaAnswer) (words : List ℕ) : Type 0 where
  accepted : {ds : List Definition} → Says S ds → ((x : SchemaRefusal) → SchemaApplies x S room → ⊥) → answer ≡ Accepted (row_count (table S ds))
      → words ≡ table S ds ++ replicate (room - length (table S ds)) 0 → SchemaOutcome S room answer words
  refused : {x : SchemaRefusal} {p : ℕ} → FirstOf (λ y. SchemaApplies y S room) schema_order x → SchemaPlace x S p → answer ≡ Refused x p
      → words ≡ replicate room 0 → SchemaOutcome S room answer words
