-- What the readers of whole texts answer, by the grammar. In every case the lent words keep their number.
use Rattle.std.specs.Prelude.{ℕ, ◌+◌, ◌*◌, ◌≤◌, ◌≡◌, List, length, Result, Ok, Err}
use Rattle.grammar.specs.Limits.{schema_levels, message_levels}
use Rattle.grammar.specs.Tree.{Json, Items}
use Rattle.grammar.specs.SchemaText.{SchemaText, schema_lexis}
use Rattle.grammar.specs.MessageText.{MessageText, message_lexis}
use Rattle.grammar.specs.Starts.{TooDeep}
use Rattle.grammar.specs.Serving.Faults.{Broken}
use Rattle.grammar.specs.Serving.Machine.Schema.{schema}
use Rattle.grammar.specs.Serving.Machine.Message.{message}
use Rattle.text.specs.Nodes.{node_words, text_bound, next, Holds, HoldsItems}
use Rattle.strings.specs.declared.dialects.Dialect.{Dialect}
use Rattle.strings.specs.declared.dialects.Dialect.TheVariants.{Schema, Message}
use Rattle.text.specs.declared.reader.TextError.{TextError}
use Rattle.text.specs.declared.reader.TextError.TheVariants.{Fault, Deep, TooLong}

-- message text: its tree, and n nodes that hold it, where they fit the words
pub record MessageRead (s words : List ℕ) (n : ℕ) : Type 0 where
  pub tree : Json
  pub text : MessageText s tree
  pub few : 2 * n ≤ length s + 1
  pub holds : node_words * n ≤ length words → Holds message s words tree message_levels 0
  pub ends : node_words * n ≤ length words → next words 0 ≡ n

-- schema text: its top-level objects, and n nodes that hold them, where they fit the words
pub record SchemaRead (s words : List ℕ) (n : ℕ) : Type 0 where
  pub items : Items
  pub text : SchemaText s items
  pub few : 2 * n ≤ length s
  pub holds : node_words * n ≤ length words → HoldsItems schema s words items schema_levels 0 n

-- Reference, Message answers 23 (Fault) and 24 (Deep)
abbrev pub MessageTold : List ℕ → List ℕ → Result ℕ TextError → Type 0
MessageTold s words (Ok n) = MessageRead s words n
MessageTold s words (Err (Fault e)) = Broken message_lexis message_levels s e
MessageTold s words (Err (Deep e)) = TooDeep message_lexis message_levels s e
MessageTold s words (Err TooLong) = text_bound ≤ length s

-- Reference, Schema answers 2 (Fault and Deep)
abbrev pub SchemaTold : List ℕ → List ℕ → Result ℕ TextError → Type 0
SchemaTold s words (Ok n) = SchemaRead s words n
SchemaTold s words (Err (Fault e)) = Broken schema_lexis schema_levels s e
SchemaTold s words (Err (Deep e)) = TooDeep schema_lexis schema_levels s e
SchemaTold s words (Err TooLong) = text_bound ≤ length s

pub record ReadsMessage (s old new : List ℕ) (r : Result ℕ TextError) : Type 0 where
  pub same_length : length new ≡ length old
  pub told : MessageTold s new r

pub record ReadsSchema (s old new : List ℕ) (r : Result ℕ TextError) : Type 0 where
  pub same_length : length new ≡ length old
  pub told : SchemaTold s new r

-- what the reader of a dialect's texts answers
abbrev pub ReadsText : Dialect → List ℕ → List ℕ → List ℕ → Result ℕ TextError → Type 0
ReadsText Schema = ReadsSchema
ReadsText Message = ReadsMessage
