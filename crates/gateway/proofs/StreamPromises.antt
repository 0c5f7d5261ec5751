-- What specs/Calls and specs/StreamRuns say of the calls of a stream, from the contract of windosprio_stream_feed and nothing else.
-- Calls one after the other are one run over the bytes that they take. A run gives the one split of its bytes, and the words that a call leaves are determined by what they stand for.
use Prim.Native.Nat.{ℕ}
use native.Mathlib.Nat.{min-le_left}
use native.Mathlib.Omega.{arith}
use mathlib.Core.Path.{◌≡◌, refl, sym, ap, ◌∙◌, subst}
use mathlib.Core.List.{List, [], ◌∷◌, ◌++◌, Memᴰ, append-nil}
use lib.ListN.{length, take, get_or}
use Rattle.grammar.specs.Limits.{message_bytes}
use Rattle.grammar.proofs.Booleans.{min_right}
use Rattle.rules.specs.declared.MessageRefusal.{MessageRefusal}
use Rattle.rules.specs.MessageAnswers as Messages
use Rattle.stream.specs.Stream.{OfText, Output, Output.message, End, Said, Stream, limit_of}
use Rattle.stream.specs.Serving.Feeding.{Standing, Call, Run, handing, run}
use Rattle.stream.specs.Serving.States.{Normal}
use Rattle.stream.proofs.Runs.{At, At.at_gap, At.at_skip, At.at_message, run_fits}
use Rattle.stream.proofs.Unique.{stream_only}
use Rattle.stream.proofs.Splits.{stream_hands}
use Rattle.stream.proofs.Handed.{never-refused}
use Rattle.stream.proofs.NormalWords as words
use Rattle.stream.proofs.NormalWords.{at_zero, at_one, normal-only, normal-length}
use Rattle.stream.proofs.Calls.{Proper, Holds, call-then, call-holds}
use Rattle.gateway.specs.Calls.{CheckCall, fresh, FeedCall}
use Rattle.gateway.specs.StreamRuns.{StreamCalls, StreamCalls.last, StreamCalls.and_then, SameRun, Ended, StreamRun}
use Rattle.gateway.specs.Serving.Outcomes.{standing, Streamed}
use Rattle.gateway.proofs.Promises.{message-refused}

-- one call
module _ {state old piece new_state new : List ℕ} {number taken bytes place : ℕ} (z : Streamed state old piece new_state new number taken bytes place) where
  abbrev limit : ℕ
  limit = limit_of (length old)

  holds : Holds limit old (length piece) (record { said = z.said; taken = taken; standing = standing new_state; buffer = new })
  holds = subst (λ (c : Call). Holds limit old (length piece) c) z.told (call-holds limit piece (standing state) old)

  pub feed-call : FeedCall old piece new number taken bytes place
  feed-call = record {
    said = z.said;
    number_is = z.number_is;
    bytes_are = z.bytes_are;
    short = λ e. subst (λ (o : Said). Proper limit o) e holds.proper;
    of_text = λ e. subst (λ (o : Said). Proper limit o) e holds.proper;
    place_is = z.place_is;
    all_taken = holds.all_taken;
    some_taken = holds.some_taken;
    within = holds.within;
    same_length = holds.same_length;
    rest_kept = holds.rest_kept;
  }

  feeds : (l : List ℕ) → run limit (standing state) old (take taken piece ++ l) ≡ handing z.said new (run (limit_of (length new)) (standing new_state) new l)
  feeds l =
      subst (λ (c : Call). run limit (standing state) old (take c.taken piece ++ l) ≡ handing c.said c.buffer (run limit c.standing c.buffer l)) z.told
      (call-then limit piece l (standing state) old)
      ∙ ap (λ (n : ℕ). handing z.said new (run (limit_of n) (standing new_state) new l)) (sym holds.same_length)

-- calls one after the other
record Ran (state old l : List ℕ) (os : List Output) (new_state new : List ℕ) : Type 0 where
  told : run (limit_of (length old)) (standing state) old l ≡ record { outputs = os; standing = standing new_state; buffer = new }
  words : length new_state ≡ length fresh
  normal : Normal (get_or new_state 0 0) (get_or new_state 1 0) (get_or new_state 2 0)

calls-ran : {state old l new_state new : List ℕ} {os : List Output} → StreamCalls state old l os new_state new → Ran state old l os new_state new
unfolding run
calls-ran (last {state = state} {old = old} {piece = piece} {taken = taken} z) =
    record { told = ap (λ (l : List ℕ). run (limit_of (length old)) (standing state) old l) (sym (append-nil (take taken piece))) ∙ feeds z []; words = z.words; normal = z.normal }
calls-ran (and_then {mid = mid} {l = l} z c) =
    let y = calls-ran c in
    record { told = feeds z l ∙ ap (λ (r : Run). handing z.said mid r) y.told; words = y.words; normal = y.normal }

-- three words, by each of them
three : (v : List ℕ) → length v ≡ length fresh → v ≡ get_or v 0 0 ∷ get_or v 1 0 ∷ get_or v 2 0 ∷ []
three [] h = absurd (omega arith)
three (a ∷ []) h = absurd (omega arith)
three (a ∷ b ∷ []) h = absurd (omega arith)
three (a ∷ b ∷ c ∷ []) h = refl
three (a ∷ b ∷ c ∷ d ∷ v) h = absurd (omega arith)

same-words : {v : List ℕ} {a b c : ℕ} → length v ≡ length fresh → words.Same (get_or v 0 0) (get_or v 1 0) (get_or v 2 0) a b c → v ≡ a ∷ b ∷ c ∷ []
same-words {v} {a} {b} {c} h s =
    three v h
    ∙ ap (λ (n : ℕ). n ∷ get_or v 1 0 ∷ get_or v 2 0 ∷ []) s.modes
    ∙ ap (λ (n : ℕ). a ∷ n ∷ get_or v 2 0 ∷ []) s.nests
    ∙ ap (λ (n : ℕ). a ∷ b ∷ n ∷ []) s.lens

pub any_cuts : {state old l new_state other_state new other : List ℕ} {os ps : List Output} → StreamCalls state old l os new_state new → StreamCalls state old l ps other_state other
    → SameRun os ps new_state other_state new other
any_cuts {other_state = other_state} r q =
    let y = calls-ran r in
    let z = calls-ran q in
    let h = sym y.told ∙ z.told in
    record {
      outputs = ap (λ (x : Run). x.outputs) h;
      states = same-words y.words (normal-only y.normal z.normal (ap (λ (x : Run). x.standing) h)) ∙ sym (three other_state z.words);
      buffers = ap (λ (x : Run). x.buffer) h;
    }

-- where the words say that the bytes end
ended : {limit : ℕ} {v buf : List ℕ} {e : End} → length v ≡ length fresh → Normal (get_or v 0 0) (get_or v 1 0) (get_or v 2 0) → {s : Standing} → standing v ≡ s → At limit s buf e → Ended v buf e
ended {v = v} {buf = buf} h n e at_gap = subst (λ (x : List ℕ). Ended x buf End.between) (sym (same-words h (normal-only n Normal.between (e ∙ sym at_zero)))) Ended.at_gap
ended {v = v} {buf = buf} h n e at_skip = subst (λ (x : List ℕ). Ended x buf End.skipping) (sym (same-words h (normal-only n Normal.skipping (e ∙ sym at_one)))) Ended.at_skip
ended {v = v} {buf = buf} h n e (at_message {m = m} z t k i) =
    let l : get_or v 2 0 ≡ length m = normal-length n e ∙ sym k in
    subst (λ (x : List ℕ). Ended x buf (End.inside m)) (sym (three v h ∙ ap (λ (c : ℕ). get_or v 0 0 ∷ get_or v 1 0 ∷ c ∷ []) l))
    (Ended.at_message (subst (λ (c : ℕ). take c buf ≡ m) (sym k) t))

-- a message that is handed out is never refused for its text
no_text : (old : List ℕ) {l : List ℕ} {os : List Output} {e : End} {m S T before after : List ℕ} {number row records place : ℕ} {x : MessageRefusal}
    → Stream (limit_of (length old)) l os e → Memᴰ (message m) os → CheckCall S T m before after number row records place → OfText x → number ≡ Messages.refusal_number x → ⊥
no_text old {S = S} {T = T} {before = before} {x = x} g h c o k =
    never-refused (stream_hands g h) (min-le_left message_bytes (length old)) S T (length before) o c.outcome (message-refused c.answer x (sym c.number_is ∙ k))

pub stream_run : {old l new_state new : List ℕ} {os : List Output} → StreamCalls fresh old l os new_state new → StreamRun old l os new_state new
stream_run {old} {l} {new_state} {new} {os} r =
    let y = calls-ran r in
    let e : run (limit_of (length old)) Standing.between old l ≡ record { outputs = os; standing = standing new_state; buffer = new } =
    ap (λ (s : Standing). run (limit_of (length old)) s old l) (sym at_zero) ∙ y.told in
    let f = run_fits {limit = limit_of (length old)} l (min_right message_bytes (length old)) at_gap in
    let g : Stream (limit_of (length old)) l os f.end = subst (λ (x : Run). Stream (limit_of (length old)) l x.outputs f.end) e f.gives in
    record {
      end = f.end;
      split = g;
      only = λ h. let s = stream_only h g in (s.outputs, s.end);
      ended = ended y.words y.normal refl (subst (λ (x : Run). At (limit_of (length old)) x.standing x.buffer f.end) e f.stands);
      text = λ h c o k. no_text old g h c o k;
    }
