-- Reference, Viewer: what is shown of an answer: its number in words, and where the text goes wrong. Every number's meaning stands here and nowhere else.
use Rattle.std.specs.Prelude.{ℕ, min, Bool, true, false, List, [], ◌∷◌, ◌++◌, ltb, length, get_or, replicate}
use Prim.Native.Char.{code}
use Rattle.grammar.specs.Notation.{text}
use Rattle.rules.specs.declared.SchemaRefusal.{SchemaRefusal}
use Rattle.rules.specs.declared.SchemaRefusal.TheVariants as R
use Rattle.rules.specs.declared.MessageRefusal.{MessageRefusal}
use Rattle.rules.specs.declared.MessageRefusal.TheVariants as M
use Rattle.rules.specs.declared.SchemaAnswer.{SchemaAnswer}
use Rattle.rules.specs.declared.SchemaAnswer.TheVariants as SA
use Rattle.rules.specs.declared.MessageAnswer.{MessageAnswer}
use Rattle.rules.specs.declared.MessageAnswer.TheVariants as MA
use Rattle.rules.specs.Rows.{name_of}
use Rattle.rules.specs.SchemaAnswers as Schemas
use Rattle.rules.specs.MessageAnswers as Messages
use Rattle.lines.specs.Text.{decimal_text}
use Rattle.trees.specs.Escapes.{shown}
use Rattle.wordings.specs.Excerpts.{excerpt, position_line}

-- Reference, Viewer: the meanings of 1 to 13, in order
abbrev pub schema_meanings : List (List ℕ)
schema_meanings =
    text "the schema is longer than 32,768 bytes"
    ∷ text "the file is not schema text"
    ∷ text "an object has a key twice"
    ∷ text "not a definition: a kind, a key or a value is missing or not known"
    ∷ text "a name that is defined is no good name"
    ∷ text "two names are one in C (- as _), or one is a built-in type's"
    ∷ text "a name refers to nothing that fits"
    ∷ text "a chain of bases has a cycle, over 16 structs or a member twice"
    ∷ text "a union does not fit its discriminator and branches"
    ∷ text "the alternatives of an alternate can not be told apart"
    ∷ text "a command returns no struct, no union and no array of these"
    ∷ text "the table would have more than 1,024 rows"
    ∷ text "the table has more rows than there is room for"
    ∷ []

-- Reference, Viewer: those of 21 to 30
abbrev pub message_meanings : List (List ℕ)
message_meanings =
    text "the table is not sound"
    ∷ text "the message is longer than 16,384 bytes"
    ∷ text "the message is not JSON text"
    ∷ text "the message nests deeper than 32 levels"
    ∷ text "an object has a key twice"
    ∷ text "the message is not an object with execute or exec-oob, arguments and id"
    ∷ text "the schema has no command of that name"
    ∷ text "the command may not run out of band"
    ∷ text "the arguments have no reading at the command's types"
    ∷ text "the reading has more records than there is room for"
    ∷ []

-- a meaning stands at its number; 0 and 14 to 20 refuse nothing
abbrev pub meanings : List (List ℕ)
meanings = [] ∷ (schema_meanings ++ (replicate 7 [] ++ message_meanings))

abbrev pub meaning_of : ℕ → List ℕ
meaning_of n = get_or meanings n []

-- the number, and its meaning
unfoldable pub refused_line : ℕ → List ℕ
refused_line n = decimal_text n ++ (text " " ++ (meaning_of n ++ (code "\n" ∷ [])))

-- 0 and the count of rows; 0 and the command's name
unfoldable pub rows_line : ℕ → List ℕ
rows_line n = text "0 schema accepted, rows: " ++ (decimal_text n ++ (code "\n" ∷ []))

unfoldable pub command_line : List ℕ → List ℕ → ℕ → List ℕ
command_line S T c = text "0 " ++ (shown (name_of S T c) ++ (code "\n" ∷ []))

-- Reference, Viewer: the refusals whose place is shown. That of absent arguments is 0, and nothing stands there.
abbrev pub schema_points : SchemaRefusal → Bool
schema_points R.TooLong = false
schema_points R.NotText = true
schema_points R.RepeatedKey = true
schema_points R.NotDefinitions = false
schema_points R.BadName = false
schema_points R.RepeatedName = false
schema_points R.UnknownName = false
schema_points R.BadChain = false
schema_points R.BadUnion = false
schema_points R.BadAlternate = false
schema_points R.BadReturn = false
schema_points R.TooManyRows = false
schema_points R.NoRoom = false

abbrev pub message_points : MessageRefusal → ℕ → Bool
message_points M.UnsoundTable p = false
message_points M.TooLong p = false
message_points M.NotText p = true
message_points M.TooDeep p = true
message_points M.RepeatedKey p = true
message_points M.NotEnvelope p = false
message_points M.UnknownCommand p = false
message_points M.NotOutOfBand p = false
message_points M.NoReading p = ltb 0 p
message_points M.NoRoom p = ltb 0 p

-- what is shown of a place: in a schema its line and column too; no place lies beyond its text
abbrev pub schema_pointer : List ℕ → ℕ → Bool → List ℕ
schema_pointer S p true = position_line S (min p (length S)) ++ excerpt S (min p (length S))
schema_pointer S p false = []

abbrev pub message_pointer : List ℕ → ℕ → Bool → List ℕ
message_pointer m p true = excerpt m (min p (length m))
message_pointer m p false = []

-- what a person is shown of an answer, but for the records
abbrev pub schema_head : List ℕ → SchemaAnswer → List ℕ
schema_head S (SA.Accepted n) = rows_line n
schema_head S (SA.Refused x p) = refused_line (Schemas.refusal_number x) ++ schema_pointer S p (schema_points x)

abbrev pub message_head : List ℕ → List ℕ → List ℕ → MessageAnswer → List ℕ
message_head S T m (MA.Accepted c n) = command_line S T c
message_head S T m (MA.Refused x p) = refused_line (Messages.refusal_number x) ++ message_pointer m p (message_points x p)
