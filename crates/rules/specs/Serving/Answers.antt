-- Serves contracts, proofs and evaluated cases: the answers as functions, by which `console` Program says what is written. Nobody has to believe them: proofs/ shows that each is the only outcome that SchemaAnswers and MessageAnswers allow.
use Rattle.std.specs.Prelude.{ℕ, zero, suc, ◌-◌, ◌/◌, Bool, true, false, cond, not, ◌&&◌, List, [], ◌∷◌, ◌++◌, eqb, ltb, length, replicate}
use Rattle.std.proofs.Math.Option.{Option, none, some}
use Rattle.grammar.specs.Limits.{schema_bytes, message_bytes, table_rows, row_words, record_words}
use Rattle.grammar.specs.Tree.{Json, Items, start_of}
use Rattle.grammar.specs.Tree.Items.{no_items, item}
use Rattle.grammar.specs.Keys.{keys_once_i}
use Rattle.grammar.specs.Serving.Repeats.{first_repeat, first_repeat_i}
use Rattle.grammar.specs.Serving.Machine.{Out}
use Rattle.grammar.specs.Serving.Machine.Out.{whole, fault, deep}
use Rattle.grammar.specs.Serving.Machine.Schema.{read_schema}
use Rattle.grammar.specs.Serving.Machine.Message.{read_message}
use Rattle.rules.specs.declared.SchemaRefusal.{SchemaRefusal}
use Rattle.rules.specs.declared.SchemaRefusal.TheVariants as R
use Rattle.rules.specs.declared.MessageRefusal.{MessageRefusal}
use Rattle.rules.specs.declared.MessageRefusal.TheVariants as M
use Rattle.rules.specs.declared.SchemaAnswer.{SchemaAnswer}
use Rattle.rules.specs.declared.SchemaAnswer.TheVariants as SA
use Rattle.rules.specs.declared.MessageAnswer.{MessageAnswer}
use Rattle.rules.specs.declared.MessageAnswer.TheVariants as MA
use Rattle.rules.specs.Types.{takes, in_range, built_in_takes}
use Rattle.rules.specs.Values.{◌>>=◌}
use Rattle.rules.specs.Definitions.{Definition, definitions}
use Rattle.rules.specs.Names.{same_name, clash}
use Rattle.rules.specs.Rows.{row_count, is_command, name_of, next, walk, past, unnamed, owns, first_child, child_count, children, past_children, members, type_kind}
use Rattle.rules.specs.Rules.{is, good_names, distinct_names, good_chains, good_unions, kinds_fit, unmixed, good_alternates, good_returns}
use Rattle.rules.specs.SchemaTable.{table, all_refer}
use Rattle.rules.specs.SchemaAnswers.{refusal_number, schema_order}
use Rattle.rules.specs.Sound.{laid_out, member_linked, union_linked, data_linked, command_linked, sound}
use Rattle.rules.specs.Envelope.{Envelope, envelope, may_use, Asked, arguments_of}
use Rattle.rules.specs.Readings.{Typed, strict, records_of}
use Rattle.rules.specs.Serving.ReadingOf.{enum_has, members_at, type_choice, reading_of}

-- the first element that has the property
abbrev pub first : {A : Type 0} → (A → Bool) → List A → Option A
first f [] = none
first f (x ∷ xs) = cond (f x) (some x) (first f xs)

abbrev pub is_none : {A : Type 0} → Option A → Bool
is_none none = true
is_none (some a) = false

-- how many stand before the first that has the property
abbrev pub before : {A : Type 0} → (A → Bool) → List A → ℕ
before f [] = 0
before f (x ∷ xs) = cond (f x) 0 (suc (before f xs))

-- the place of a refusal in an order, told by its number; and of a schema's in theirs
abbrev pub rank_in : {A : Type 0} → (A → ℕ) → List A → A → ℕ
rank_in number order x = before (λ y. eqb (number y) (number x)) order

unfoldable pub rank : SchemaRefusal → ℕ
rank x = rank_in refusal_number schema_order x

-- an outcome: the answer and the lent words
pub record SchemaResult : Type 0 where
  pub answer : SchemaAnswer
  pub words : List ℕ

pub record MessageResult : Type 0 where
  pub answer : MessageAnswer
  pub words : List ℕ

abbrev pub objects_in : Out → Option Items
objects_in (whole js) = some js
objects_in (fault e) = none
objects_in (deep e) = none

-- where a text goes wrong, and where a key is repeated; 0 where neither is so
abbrev pub fault_in : Out → ℕ
fault_in (whole js) = 0
fault_in (fault e) = e
fault_in (deep e) = e

abbrev pub place_or0 : Option ℕ → ℕ
place_or0 none = 0
place_or0 (some p) = p

abbrev pub repeat_in : Out → ℕ
repeat_in o = place_or0 (objects_in o >>= first_repeat_i)

-- the place of a schema's refusal, given what was read of its text
abbrev pub schema_place : Out → SchemaRefusal → ℕ
schema_place o R.TooLong = 0
schema_place o R.NotText = fault_in o
schema_place o R.RepeatedKey = repeat_in o
schema_place o R.NotDefinitions = 0
schema_place o R.BadName = 0
schema_place o R.RepeatedName = 0
schema_place o R.UnknownName = 0
schema_place o R.BadChain = 0
schema_place o R.BadUnion = 0
schema_place o R.BadAlternate = 0
schema_place o R.BadReturn = 0
schema_place o R.TooManyRows = 0
schema_place o R.NoRoom = 0

module _ (S : List ℕ) (room : ℕ) where
  -- whether a number applies, given the text's objects, their definitions, and the table of those
  abbrev pub schema_test : Option Items → Option (List Definition) → SchemaRefusal → Bool
  schema_test js ds R.TooLong = ltb schema_bytes (length S)
  schema_test js ds R.NotText = is_none js
  schema_test js ds R.RepeatedKey = is js (λ j. not (keys_once_i j))
  schema_test js ds R.NotDefinitions = is js (λ j. is_none ds)
  schema_test js ds R.BadName = is ds (λ d. not (good_names S (table S d)))
  schema_test js ds R.RepeatedName = is ds (λ d. not (distinct_names S (table S d)))
  schema_test js ds R.UnknownName = is ds (λ d. not (all_refer S d))
  schema_test js ds R.BadChain = is ds (λ d. not (good_chains S (table S d)))
  schema_test js ds R.BadUnion = is ds (λ d. not (good_unions S (table S d)))
  schema_test js ds R.BadAlternate = is ds (λ d. not (good_alternates S (table S d)))
  schema_test js ds R.BadReturn = is ds (λ d. not (good_returns S (table S d)))
  schema_test js ds R.TooManyRows = is ds (λ d. ltb table_rows (row_count (table S d)))
  schema_test js ds R.NoRoom = is ds (λ d. ltb (room / row_words) (row_count (table S d)))

  abbrev pub table_in : Option (List Definition) → List ℕ
  table_in none = []
  table_in (some ds) = table S ds

  -- refused by the first number that applies, with its place, or accepted with the table
  abbrev pub schema_answered : Out → List ℕ → Option SchemaRefusal → SchemaResult
  schema_answered o T none = record { answer = SA.Accepted (row_count T); words = T ++ replicate (room - length T) 0 }
  schema_answered o T (some x) = record { answer = SA.Refused x (schema_place o x); words = replicate room 0 }

  abbrev pub of_definitions : Out → Option Items → Option (List Definition) → SchemaResult
  of_definitions o js ds = schema_answered o (table_in ds) (first (schema_test js ds) schema_order)

  unfoldable pub schema_result : SchemaResult
  unfolding read_schema definitions table all_refer clash good_names distinct_names good_chains good_unions kinds_fit unmixed good_alternates good_returns next walk past unnamed owns first_child child_count children past_children members type_kind name_of
  schema_result = let o = read_schema S in let js = objects_in o in of_definitions o js (js >>= definitions)

module _ (S T : List ℕ) where
  -- the first command of that name among n rows from r on
  abbrev pub command_from : List ℕ → ℕ → ℕ → Option ℕ
  command_from x r zero = none
  command_from x r (suc n) = cond (is_command T r && same_name (name_of S T r) x) (some r) (command_from x (suc r) n)

  abbrev pub command_of : Envelope → Option ℕ
  command_of v = command_from v.name 0 (row_count T)

-- what a message asks, or why it is refused before that is known
pub data Asking : Type 0 where
  asks : Asked → Asking
  refuses : MessageRefusal → Asking

module _ (S T : List ℕ) where
  abbrev pub command_asking : Envelope → Option ℕ → Asking
  command_asking v none = refuses M.UnknownCommand
  command_asking v (some c) = cond (may_use T c v.out_of_band) (asks (arguments_of T v c)) (refuses M.NotOutOfBand)

  abbrev pub envelope_asking : Option Envelope → Asking
  envelope_asking none = refuses M.NotEnvelope
  envelope_asking (some v) = command_asking v (command_of S T v)

  abbrev pub asking : Json → Asking
  asking j = envelope_asking (envelope j)

  abbrev pub asked_reading : Asked → Option (List Typed)
  asked_reading a = reading_of strict S T a.value a.ref a.array

module _ (room : ℕ) where
  abbrev pub refused_at : MessageRefusal → ℕ → MessageResult
  refused_at x p = record { answer = MA.Refused x p; words = replicate room 0 }

  -- by a refusal that points nowhere
  abbrev pub refused_by : MessageRefusal → MessageResult
  refused_by x = refused_at x 0

  abbrev pub accepted_with : ℕ → List Typed → MessageResult
  accepted_with c ts = record { answer = MA.Accepted c (length ts); words = records_of ts ++ replicate (room - length (records_of ts)) 0 }

  -- 29 and 30, by the reading; the value asked for starts at p
  abbrev pub reading_result : ℕ → ℕ → Option (List Typed) → MessageResult
  reading_result c p none = refused_at M.NoReading p
  reading_result c p (some ts) = cond (ltb (room / record_words) (length ts)) (refused_at M.NoRoom p) (accepted_with c ts)

module _ (S T : List ℕ) (room : ℕ) where
  -- from 26 on, by what is asked; from 25 on, by the value; from 23 on, by the text
  abbrev pub asked_result : Asking → MessageResult
  asked_result (asks a) = reading_result room a.second (start_of a.value) (asked_reading S T a)
  asked_result (refuses x) = refused_by room x

  abbrev pub keys_result : Json → Option ℕ → MessageResult
  keys_result j none = asked_result (asking S T j)
  keys_result j (some p) = refused_at room M.RepeatedKey p

  abbrev pub value_result : Json → MessageResult
  value_result j = keys_result j (first_repeat j)

  abbrev pub text_result : Out → MessageResult
  text_result (whole no_items) = refused_by room M.NotText
  text_result (whole (item j js)) = value_result j
  text_result (fault e) = refused_at room M.NotText e
  text_result (deep e) = refused_at room M.TooDeep e

-- from 22 on, of a sound table
unfoldable pub sound_result : (S T m : List ℕ) → ℕ → MessageResult
unfolding read_message laid_out next walk past unnamed owns first_child child_count children past_children members type_kind name_of envelope enum_has members_at type_choice takes in_range built_in_takes
sound_result S T m room = cond (ltb message_bytes (length m)) (refused_by room M.TooLong) (text_result S T room (read_message m))

unfoldable pub message_result : (S T m : List ℕ) → ℕ → MessageResult
unfolding sound_result sound member_linked union_linked data_linked command_linked clash good_names distinct_names good_chains good_unions kinds_fit unmixed good_alternates good_returns
message_result S T m room = cond (sound S T) (sound_result S T m room) (refused_by room M.UnsoundTable)
