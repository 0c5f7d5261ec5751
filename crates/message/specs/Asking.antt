-- Serves contracts: what is asked, by the nodes of a message, for every value that they hold.
use Rattle.std.specs.Prelude.{ℕ, ◌-◌, ◌<◌, ◌≡◌, ◌⊎◌, true, List}
use Rattle.grammar.specs.Tree.{Json}
use Rattle.grammar.specs.Tree.Json.{obj}
use Rattle.grammar.specs.Tree.Fields.{no_fields}
use Rattle.grammar.specs.Keys.{keys_once}
use Rattle.grammar.specs.Serving.Machine.Message.{message}
use Rattle.rules.specs.Sound.{sound}
use Rattle.rules.specs.Readings.{strict}
use Rattle.rules.specs.Envelope as Envelope
use Rattle.rules.specs.Serving.Answers as Answers
use Rattle.text.specs.Nodes.{Holds}
use Rattle.message.specs.declared.asked.Asked.{Asked}
use Rattle.message.specs.declared.asked.Asking.{Asking}
use Rattle.message.specs.declared.asked.Asking.TheVariants.{Asks, Refuses}

-- the value stands at a node; 0 is no node, and the value is {} at 0, 0
abbrev pub StandsAt : List ℕ → List ℕ → ℕ → Json → ℕ → Type 0
StandsAt m w l j k = ((k ≡ 0) × (j ≡ obj 0 0 no_fields)) ⊎ ((0 < k) × Holds message m w j l k)

-- x asks for what a does
pub record AskedAs (m w : List ℕ) (l : ℕ) (a : Envelope.Asked) (x : Asked) : Type 0 where
  pub ref : x.how.reference ≡ a.ref
  pub array : x.how.array ≡ a.array
  pub policy : x.how.passes ≡ strict
  pub second : x.second ≡ a.second
  pub at : StandsAt m w l a.value x.node

abbrev pub AskingTold : List ℕ → List ℕ → ℕ → Answers.Asking → Asking → Type 0
AskingTold m w l (Answers.Asking.asks a) (Asks x) = AskedAs m w l a x
AskingTold m w l (Answers.Asking.asks a) (Refuses y) = ⊥
AskingTold m w l (Answers.Asking.refuses z) (Asks x) = ⊥
AskingTold m w l (Answers.Asking.refuses z) (Refuses y) = z ≡ y

-- what the message whose value stands at node 0 asks of a sound table
pub record AsksFor (S T m w : List ℕ) (r : Asking) : Type 0 where
  pub told : sound S T ≡ true → (j : Json) (l : ℕ) → Holds message m w j l 0 → keys_once j ≡ true → AskingTold m w (l - 1) (Answers.asking S T j) r
