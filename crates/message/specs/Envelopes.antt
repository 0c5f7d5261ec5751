-- Serves contracts: what reading the envelope finds in the nodes, for every value that they hold.
use Rattle.std.specs.Prelude.{ℕ, ◌-◌, ◌<◌, ◌≡◌, ◌⊎◌, Bool, true, false, cond, List, eqb}
use Rattle.std.specs.Prelude as Std
use Rattle.std.specs.Prelude.{Some, None, unwrap_or}
use Rattle.std.proofs.Math.Option.{Option, none, some}
use Rattle.grammar.specs.Tree.{Json}
use Rattle.grammar.specs.Tree.Scalar.{str}
use Rattle.grammar.specs.Tree.Json.{leaf, obj}
use Rattle.grammar.specs.Tree.Fields.{no_fields}
use Rattle.grammar.specs.Keys.{keys_once}
use Rattle.grammar.specs.Serving.Machine.Message.{message}
use Rattle.rules.specs.Envelope.{Envelope, envelope}
use Rattle.text.specs.Nodes.{Holds, node_kind}
use Rattle.lookups.specs.Lookups.{string_kind}
use Rattle.message.specs.declared.envelope.Envelope as E
use Rattle.message.specs.declared.envelope.Envelope.TheVariants.{Call, Improper}
use Rattle.tokens.specs.NodeKinds.{object_node}

-- a call by the string at a node
abbrev pub call_of : List ℕ → ℕ → Bool → Std.Option ℕ → E.Envelope
call_of w name oob arguments = cond (string_kind (node_kind w name)) (Call name oob (unwrap_or arguments 0)) Improper

-- the arguments at a node are an object, unless they are absent
abbrev pub proper_arguments : List ℕ → Std.Option ℕ → Bool
proper_arguments w (Some k) = eqb (node_kind w k) object_node
proper_arguments w None = true

-- a call by exactly one of the values at the nodes of execute and exec-oob
abbrev pub call_by_one : List ℕ → Std.Option ℕ → Std.Option ℕ → Std.Option ℕ → E.Envelope
call_by_one w None None arguments = Improper
call_by_one w None (Some name) arguments = call_of w name true arguments
call_by_one w (Some name) None arguments = call_of w name false arguments
call_by_one w (Some name) (Some other) arguments = Improper

-- a call by these values and the arguments
abbrev pub called_by : List ℕ → Std.Option ℕ → Std.Option ℕ → Std.Option ℕ → E.Envelope
called_by w execute oob arguments = cond (proper_arguments w arguments) (call_by_one w execute oob arguments) Improper

-- the nodes of what an envelope says: the name's, and that of the arguments, 0 where they are absent
pub record SaidAt (m w : List ℕ) (l : ℕ) (v : Envelope) (r : E.Envelope) : Type 0 where
  pub name : ℕ
  pub arguments : ℕ
  pub is : r ≡ Call name v.out_of_band arguments
  pub name_start : ℕ
  pub name_end : ℕ
  pub name_holds : Holds message m w (leaf name_start name_end (str v.name)) l name
  pub arguments_hold : ((arguments ≡ 0) × (v.arguments ≡ obj 0 0 no_fields)) ⊎ ((0 < arguments) × Holds message m w v.arguments l arguments)

abbrev pub EnvelopeTold : List ℕ → List ℕ → ℕ → Option Envelope → E.Envelope → Type 0
EnvelopeTold m w l none r = r ≡ Improper
EnvelopeTold m w l (some v) r = SaidAt m w l v r

pub record ReadsEnvelope (m w : List ℕ) (r : E.Envelope) : Type 0 where
  pub told : (j : Json) (l : ℕ) → Holds message m w j l 0 → keys_once j ≡ true → EnvelopeTold m w (l - 1) (envelope j) r
