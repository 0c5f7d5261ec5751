-- What calls of windosprio_stream_feed one after the other owe their caller; proofs/StreamPromises has it, from the call's contract.
use Rattle.std.specs.Prelude.{ℕ, ◌≢◌, ◌≡◌, length, take}
use mathlib.Core.List.{List, [], ◌∷◌, ◌++◌, Memᴰ}
use Rattle.rules.specs.declared.MessageRefusal.{MessageRefusal}
use Rattle.rules.specs.MessageAnswers as Messages
use Rattle.stream.specs.Stream.{OfText, Output, Output.message, End, End.between, End.skipping, End.inside, Stream, limit_of, onto}
use Rattle.gateway.specs.Calls.{CheckCall}
use Rattle.gateway.specs.Serving.Outcomes.{Streamed}

-- One call at least, each by its contract and with the state and the buffer that the one before left. `l` are the bytes that they take, in order, whatever pieces these came in; `os` is what they
-- hand out.
pub data StreamCalls : List ℕ → List ℕ → List ℕ → List Output → List ℕ → List ℕ → Type 0 where
  last : {state old piece new_state new : List ℕ} {number taken bytes place : ℕ} (z : Streamed state old piece new_state new number taken bytes place)
      → StreamCalls state old (take taken piece) (onto z.said new []) new_state new
  and_then : {state old piece mid_state mid l new_state new : List ℕ} {number taken bytes place : ℕ} {os : List Output} (z : Streamed state old piece mid_state mid number taken bytes place)
      → StreamCalls mid_state mid l os new_state new → StreamCalls state old (take taken piece ++ l) (onto z.said mid os) new_state new

-- From any state and buffer: cutting the same bytes elsewhere, empty pieces included, gives the same outputs, the same state and the same buffer.
pub record SameRun (os ps : List Output) (new_state other_state new other : List ℕ) : Type 0 where
  pub outputs : os ≡ ps
  pub states : new_state ≡ other_state
  pub buffers : new ≡ other

-- what a state says of the place where the bytes end; the bytes of a message that has begun are at the start of the buffer
pub data Ended : List ℕ → List ℕ → End → Type 0 where
  at_gap : {buf : List ℕ} → Ended (0 ∷ 0 ∷ 0 ∷ []) buf between
  at_skip : {buf : List ℕ} → Ended (1 ∷ 0 ∷ 0 ∷ []) buf skipping
  at_message : {mode nest : ℕ} {buf m : List ℕ} → take (length m) buf ≡ m → Ended (mode ∷ nest ∷ length m ∷ []) buf (inside m)

-- from a fresh state, with the buffer `old`
pub record StreamRun (old l : List ℕ) (os : List Output) (new_state new : List ℕ) : Type 0 where
  -- what is handed out is the split of the bytes, and there is no other
  pub end : End
  pub split : Stream (limit_of (length old)) l os end
  pub only : {ps : List Output} {e : End} → Stream (limit_of (length old)) l ps e → (ps ≡ os) × (e ≡ end)
  pub ended : Ended new_state new end
  -- no message that is handed out is refused with 22, 23 or 24
  pub text : {m S T before after : List ℕ} {number row records place : ℕ} {x : MessageRefusal} → Memᴰ (message m) os → CheckCall S T m before after number row records place → OfText x
      → number ≢ Messages.refusal_number x
