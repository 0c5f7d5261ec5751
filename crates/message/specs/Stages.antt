-- Serves contracts: what each stage of the message call finds, and the answer before the words after it are cleared.
use Rattle.std.specs.Prelude.{ℕ, ◌-◌, ◌*◌, ◌^◌, ◌/◌, ◌%◌, ◌≤◌, ◌<◌, ◌≡◌, true, List, ◌++◌, length, take, replicate, Result, Ok, Err}
use Rattle.grammar.specs.Limits.{message_bytes, message_levels, record_words}
use Rattle.grammar.specs.Tree.{Json}
use Rattle.grammar.specs.Tree.Items.{no_items, item}
use Rattle.grammar.specs.Keys.{keys_once}
use Rattle.grammar.specs.Serving.Machine.Out.{whole}
use Rattle.grammar.specs.Serving.Machine.Message.{message, read_message}
use Rattle.rules.specs.declared.MessageAnswer.{MessageAnswer}
use Rattle.rules.specs.MessageAnswers.{answer_records}
use Rattle.rules.specs.Envelope as Envelope
use Rattle.rules.specs.Serving.Answers.{MessageResult, Asking.asks, asking, refused_at, text_result, message_result}
use Rattle.text.specs.Nodes.{node_words, next, Holds}
use Rattle.children.specs.Index.{IndexedTable}
use Rattle.message.specs.declared.asked.Asked.{Asked}
use Rattle.message.specs.declared.check.TextRefused.{TextRefused}
use Rattle.message.specs.Asking.{AskedAs}

-- the most bytes of a short message
abbrev pub short_message : ℕ
short_message = message_bytes / 4

-- the nodes of any message text as long as m fit the words w
pub record NodesFit (m w : List ℕ) : Type 0 where
  pub enough : 2 * length m ≤ length w
  pub whole_nodes : length w % node_words ≡ 0
  pub small : length w < 2 ^ 32

-- the message is a value that stands in the nodes below `count`
pub record WholeText (m w : List ℕ) (count : ℕ) : Type 0 where
  pub value : Json
  pub text : read_message m ≡ whole (item value no_items)
  pub holds : Holds message m w value message_levels 0
  pub ends : next w 0 ≡ count
  pub small : length w < 2 ^ 32

-- and repeats no key
pub record ValueRead (m w : List ℕ) : Type 0 where
  pub value : Json
  pub text : read_message m ≡ whole (item value no_items)
  pub holds : Holds message m w value message_levels 0
  pub once : keys_once value ≡ true
  pub small : length w < 2 ^ 32

-- or is refused for its text at a place, whatever the table and the room
abbrev pub TextTold : List ℕ → List ℕ → Result (Unit {0}) TextRefused → Type 0
TextTold m w (Ok found) = ValueRead m w
TextTold m w (Err x) = (S T : List ℕ) (room : ℕ) → text_result S T room (read_message m) ≡ refused_at room x.0 x.1

pub record KeysRead (m w : List ℕ) (r : Result (Unit {0}) TextRefused) : Type 0 where
  pub told : TextTold m w r

pub record ReadsText (m old new : List ℕ) (r : Result (Unit {0}) TextRefused) : Type 0 where
  pub told : TextTold m new r

-- what the message asks of a sound table with its index
pub record AskedIn (S T m w ix : List ℕ) (x : Asked) : Type 0 where
  pub given : IndexedTable S T ix
  pub value : Json
  pub text : read_message m ≡ whole (item value no_items)
  pub once : keys_once value ≡ true
  pub asked : Envelope.Asked
  pub is : asking S T value ≡ asks asked
  pub levels : ℕ
  pub few : levels ≤ message_levels
  pub like : AskedAs m w levels asked x
  pub small : length w < 2 ^ 32

-- and that its value stands at the node asked for, in nodes of the message's or of its own
pub record PresentIn (S T m w ix : List ℕ) (x : Asked) : Type 0 where
  pub nodes : List ℕ
  pub here : AskedIn S T m nodes ix x
  pub levels : ℕ
  pub few : levels ≤ message_levels
  pub holds : Holds message m w here.asked.value levels x.node
  pub low : x.node < 2 ^ 32

-- the answer is the result's; its words are the lent ones as far as they are counted, and 0 after them
pub record Uncleared (result : MessageResult) (old new : List ℕ) (r : MessageAnswer) : Type 0 where
  pub answer : result.answer ≡ r
  pub same_length : length new ≡ length old
  pub counted : record_words * answer_records r ≤ length new
  pub words : result.words ≡ take (record_words * answer_records r) new ++ replicate (length new - record_words * answer_records r) 0

-- the whole outcome
pub record Answered (S T m old new : List ℕ) (r : MessageAnswer) : Type 0 where
  pub told : message_result S T m (length old) ≡ record { answer = r; words = new }
