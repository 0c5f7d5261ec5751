-- Demand 3 as one theorem: a message is accepted exactly when it is readable and the room can hold its reading; there is only one; the answer is it.
-- The idea: MessageOutcome gives one outcome, accepted where no refusal applies; each part of Readable is that a refusal does not apply.
use Prim.Native.Nat.{ℕ, ◌-◌, ◌/◌, ◌≤◌}
use native.Mathlib.Omega.{arith}
use mathlib.Core.Path.{◌≡◌, refl, sym, subst}
use mathlib.Core.List.{List, ◌++◌}
use lib.ListN.{length, replicate}
use Rattle.grammar.specs.Limits.{record_words}
use Rattle.grammar.specs.Keys.{keys_once}
use Rattle.grammar.proofs.Texts.{message_unique}
use Rattle.rules.specs.declared.MessageRefusal.{MessageRefusal}
use Rattle.rules.specs.declared.MessageRefusal.TheVariants as M
use Rattle.rules.specs.declared.MessageAnswer.TheVariants.{Accepted, Refused}
use Rattle.rules.specs.Sound.{sound}
use Rattle.rules.specs.Envelope.{Asked}
use Rattle.rules.specs.Readings.{Typed, strict, records_of}
use Rattle.rules.specs.MessageAnswers.{AsksIn, ReadsAsked, MessageApplies, MessageOutcome, Readable, Held}
use Rattle.rules.specs.MessageAnswers.MessageOutcome.{accepted, refused}
use Rattle.rules.specs.Demands.{Gives}
use Rattle.rules.specs.Serving.Answers.{message_result}
use Rattle.rules.proofs.Lists.{not-less}
use Rattle.rules.proofs.SoundFacts.{sound-facts}
use Rattle.rules.proofs.ReadingExact.{unique}
use Rattle.rules.proofs.MessageOutcome.{true_of, same_asked, unrefused, message-outcome, message-outcome-only}

module _ (S T m : List ℕ) where
  -- where all but the room is so, the message asks for one thing, and there is only one reading of it
  pub one-reading : {a b : Asked} {ts us : List Typed} → Readable S T m a ts → Readable S T m b us → (a ≡ b) × (ts ≡ us)
  one-reading {ts = ts} r g =
      let e = same_asked S T r.sound_table (message_unique r.is_text g.is_text) r.asks g.asks in
      (e, unique strict S T (sound-facts S T r.sound_table) (subst (λ (x : Asked). ReadsAsked S T x ts) e r.reads) g.reads)

  module _ (room : ℕ) where
    -- what no refusal applies to is readable and held
    readable : {a : Asked} {ts : List Typed} → AsksIn S T m a → ReadsAsked S T a ts → ((x : MessageRefusal) → MessageApplies x S T m room → ⊥) → Readable S T m a ts × Held room ts
    readable {a} {ts} h g k = (
      record {
        sound_table = true_of (sound S T) (k M.UnsoundTable);
        short = not-less (k M.TooLong);
        value = h.value;
        is_text = h.is_text;
        each_key_once = true_of (keys_once h.value) (λ e. k M.RepeatedKey (h.value, h.is_text, e));
        asks = h.asks;
        reads = g;
      },
      not-less (λ l. k M.NoRoom (a, h, ts, g, l)),
    )

    -- an acceptance gives the reading, as the words
    pub accepted-gives : (c n : ℕ) → (message_result S T m room).answer ≡ Accepted c n → Gives S T m room c n (message_result S T m room).words
    accepted-gives c n e = go (message-outcome S T m room)
      where
        go : MessageOutcome S T m room (message_result S T m room).answer (message_result S T m room).words → Gives S T m room c n (message_result S T m room).words
        go (accepted {a} {ts} h g k p q) =
            let x : c ≡ a.second = cc in
            let y : n ≡ length ts = cc in
            let z = readable h g k in
            record { asked = a; reading = ts; readable_so = z.0; held = z.1; row = x; count = y; records = q }
        go (refused h l p q) = let z : ◌≡◌ {A = ℕ} 0 1 = cc in absurd (omega arith)

    pub gives-accepted : {a : Asked} {ts : List Typed} → Readable S T m a ts → Held room ts → (message_result S T m room).answer ≡ Accepted a.second (length ts)
    gives-accepted {a} {ts} r f =
        sym (message-outcome-only S T m room (Accepted a.second (length ts)) (records_of ts ++ replicate (room - length (records_of ts)) 0)
        (accepted (record { value = r.value; is_text = r.is_text; asks = r.asks }) r.reads (unrefused S T m room r f) refl refl)).0

    -- a refusal leaves every lent word 0
    pub refused-zero : (x : MessageRefusal) (p : ℕ) → (message_result S T m room).answer ≡ Refused x p → (message_result S T m room).words ≡ replicate room 0
    refused-zero x p e = go (message-outcome S T m room)
      where
        go : MessageOutcome S T m room (message_result S T m room).answer (message_result S T m room).words → (message_result S T m room).words ≡ replicate room 0
        go (accepted h g k p q) = let z : ◌≡◌ {A = ℕ} 0 1 = cc in absurd (omega arith)
        go (refused h l p q) = q

  -- more room never changes an acceptance but for the zeros after it
  pub more_room : (room more c n : ℕ) → room ≤ more → (message_result S T m room).answer ≡ Accepted c n → (message_result S T m more).answer ≡ Accepted c n
  more_room room more c n h e =
      let z = accepted-gives room c n e in
      let f : Held more z.reading = held_more room more (length z.reading) h z.held in
      let g = gives-accepted more z.readable_so f in
      let r = z.row in
      let k = z.count in
      cc
    where
      held_more : (a b k : ℕ) → a ≤ b → k ≤ a / record_words → k ≤ b / record_words
      held_more a b k p q = omega arith
