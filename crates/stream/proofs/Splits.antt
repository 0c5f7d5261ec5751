-- Every list of bytes has a split, and there is no other (Unique); each message handed out is a message within the limit.
-- A run over any buffer that is large enough gives a split (Runs).
use Prim.Native.Nat.{ℕ, ◌≤◌}
use native.Mathlib.Omega.{arith}
use mathlib.Core.Path.{◌≡◌, subst}
use mathlib.Core.List.{List, Memᴰ}
use lib.ListN.{length}
use Rattle.rules.specs.declared.MessageRefusal.{MessageRefusal}
use Rattle.stream.specs.Stream.{Message, Output, Output.message, Output.refused, End, Stream, Skips}
use Rattle.stream.specs.Serving.Feeding.{Standing, run}
use Rattle.stream.proofs.Runs.{At.at_gap, run_fits}
use Rattle.stream.proofs.Unique.{zeros, zeros-room}

pub stream_exists : (limit : ℕ) (l : List ℕ) → (os : List Output) × (e : End) × Stream limit l os e
stream_exists limit l = let z = run_fits l (zeros-room limit) at_gap in ((run limit Standing.between (zeros limit) l).outputs, z.end, z.gives)

-- what is handed out as a message is one, within the limit
pub record Handed (limit : ℕ) (m : List ℕ) : Type 0 where
  pub whole : Message m
  pub short : length m ≤ limit

same-message : {m n : List ℕ} → message m ≡ message n → n ≡ m
same-message h = cc

no_refusal : {A : Type 0} {m : List ℕ} {x : MessageRefusal} → message m ≡ refused x → A
no_refusal h = let z : ◌≡◌ {A = ℕ} 0 1 = cc in absurd (omega arith)

mutual
  pub stream_hands : {limit : ℕ} {l m : List ℕ} {os : List Output} {e : End} → Stream limit l os e → Memᴰ (message m) os → Handed limit m
  stream_hands Stream.done h = elim h [ ]
  stream_hands (Stream.begun _ _) h = elim h [ ]
  stream_hands (Stream.gap t d) h = stream_hands d h
  stream_hands {limit} (Stream.whole e w i d) (Memᴰ.head h) = subst (λ (m : List ℕ). Handed limit m) (same-message h) (record { whole = w; short = i })
  stream_hands (Stream.whole e w i d) (Memᴰ.tail h) = stream_hands d h
  stream_hands (Stream.cleared b e z i t d) (Memᴰ.head h) = no_refusal h
  stream_hands (Stream.cleared b e z i t d) (Memᴰ.tail h) = stream_hands d h
  stream_hands (Stream.lost e r d) (Memᴰ.head h) = no_refusal h
  stream_hands (Stream.lost e r d) (Memᴰ.tail h) = skips_hand d h

  pub skips_hand : {limit : ℕ} {l m : List ℕ} {os : List Output} {e : End} → Skips limit l os e → Memᴰ (message m) os → Handed limit m
  skips_hand Skips.over h = elim h [ ]
  skips_hand (Skips.skip t d) h = skips_hand d h
  skips_hand (Skips.clear t d) h = stream_hands d h
