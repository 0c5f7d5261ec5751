-- A run gives what Stream allows, from wherever the reader can stand.
-- By induction on the bytes. What is read of a message goes on as if it were still to come, so that a rule of Stream is met where its last byte is.
use Prim.Native.Nat.{ℕ, suc, ◌≤◌, ◌<◌}
use native.Mathlib.Omega.{arith}
use mathlib.Core.Path.{◌≡◌, refl, sym, ap, ◌∙◌}
use mathlib.Core.Bool.{Bool, false, ◌||◌}
use mathlib.Core.List.{List, [], ◌∷◌, ◌++◌, append_assoc, append-nil}
use lib.ListN.{length, take, set, length-set}
use lib.Seq.{take-suc-set}
use lib.Dec.{ltb}
use borrow.Author.Tests.{ltb-true, ltb-false}
use Rattle.grammar.specs.Lexis.{blank}
use Rattle.grammar.proofs.Booleans.{by}
use Rattle.rules.specs.declared.MessageRefusal.{MessageRefusal}
use Rattle.std.specs.Prelude.{None, Ok, Err}
use Rattle.stream.specs.Stream.{clears, opens, Belongs, Refuses, Output, Output.refused, End, Stream, Skips, onto}
use Rattle.stream.specs.Serving.Modes.{Mode, Turn, turn}
use Rattle.stream.specs.Serving.Feeding.{Standing, Outcome, outcome_of, byte, Step, act, step, Run, run}
use Rattle.stream.proofs.Messages.{Stands, Reached, length_snoc, stands-begun, closes-message, stands-turn, stuck_never, over-not, over-deeper, opens-stands}

-- what the bytes l give after others that ended at a place
abbrev pub Continues : ℕ → End → List ℕ → List Output → End → Type 0
Continues limit End.between l os e = Stream limit l os e
Continues limit End.skipping l os e = Skips limit l os e
Continues limit (End.inside m) l os e = Stream limit (m ++ l) os e

-- where a reader stands, by the bytes that it has read
pub data At (limit : ℕ) : Standing → List ℕ → End → Type 0 where
  at_gap : {buf : List ℕ} → At limit Standing.between buf End.between
  at_skip : {buf : List ℕ} → At limit Standing.skipping buf End.skipping
  at_message : {md : Mode} {fs : List Bool} {n : ℕ} {buf m : List ℕ} → Stands md fs m → take n buf ≡ m → length m ≡ n → n ≤ limit → At limit (Standing.inside md fs n) buf (End.inside m)

-- what a byte does is what the rules say
pub record Follows (limit : ℕ) (e : End) (b size : ℕ) (t : Step) : Type 0 where
  pub next : End
  pub stands : At limit t.standing t.buffer next
  pub same_length : length t.buffer ≡ size
  pub gives : (l : List ℕ) (os : List Output) (f : End) → Continues limit next l os f → Continues limit e (b ∷ l) (onto t.said t.buffer os) f

-- a byte of a message is in the buffer after those before it
pub stored : (buf : List ℕ) (n b : ℕ) {m : List ℕ} → take n buf ≡ m → n < length buf → take (suc n) (set buf n b) ≡ m ++ (b ∷ [])
stored buf n b e h = take-suc-set buf n b h ∙ ap (λ (l : List ℕ). l ++ (b ∷ [])) e

module _ (limit : ℕ) (buf : List ℕ) (b : ℕ) (room : limit ≤ length buf) where
  passes : {s : Standing} {e f : End} → At limit s buf f → ((l : List ℕ) (os : List Output) (g : End) → Continues limit f l os g → Continues limit e (b ∷ l) os g)
      → Follows limit e b (length buf) (record { said = Ok None; standing = s; buffer = buf })
  passes {f = f} z h = record { next = f; stands = z; same_length = refl; gives = h }

  refuses : {s : Standing} {e f : End} {x : MessageRefusal} → At limit s buf f → ((l : List ℕ) (os : List Output) (g : End) → Continues limit f l os g → Continues limit e (b ∷ l) (refused x ∷ os) g)
      → Follows limit e b (length buf) (record { said = Err x; standing = s; buffer = buf })
  refuses {f = f} z h = record { next = f; stands = z; same_length = refl; gives = h }

  keeps : {e : End} {md : Mode} {fs : List Bool} {n : ℕ} {m : List ℕ} → Stands md fs (m ++ (b ∷ [])) → take n buf ≡ m → length m ≡ n → n < limit
      → ((l : List ℕ) (os : List Output) (g : End) → Stream limit ((m ++ (b ∷ [])) ++ l) os g → Continues limit e (b ∷ l) os g)
      → Follows limit e b (length buf) (record { said = Ok None; standing = Standing.inside md fs (suc n); buffer = set buf n b })
  keeps {n = n} {m = m} z e k h g =
      record {
        next = End.inside (m ++ (b ∷ []));
        stands = at_message {n = suc n} z (stored buf n b e (omega arith)) (omega (arith, length_snoc m b)) (omega arith);
        same_length = length-set buf n b;
        gives = g;
      }

  -- between messages
  gap-follows : Follows limit End.between b (length buf) (act (byte limit Standing.between b) 0 buf b)
  unfolding byte
  gap-follows =
      by (λ (o : Outcome). Follows limit End.between b (length buf) (act o 0 buf b)) (blank b || clears b) (λ t. passes at_gap (λ l os g c. Stream.gap t c))
      (λ t.
      by (λ (o : Outcome). Follows limit End.between b (length buf) (act o 0 buf b)) (opens b)
      (λ u.
      by (λ (o : Outcome). Follows limit End.between b (length buf) (act o 0 buf b)) (ltb 0 limit) (λ v. keeps {m = []} (opens-stands b u) refl refl (ltb-true 0 limit v) (λ l os g c. c))
      (λ v. refuses at_skip (λ l os g c. Stream.lost refl (Refuses.long (Belongs.first u) (omega (arith, ltb-false 0 limit v))) c)))
      (λ u. refuses at_skip (λ l os g c. Stream.lost refl (Refuses.stray t u) c)))

  -- after a refusal
  skip-follows : Follows limit End.skipping b (length buf) (act (byte limit Standing.skipping b) 0 buf b)
  unfolding byte
  skip-follows =
      by (λ (o : Outcome). Follows limit End.skipping b (length buf) (act o 0 buf b)) (clears b) (λ t. passes at_gap (λ l os g c. Skips.clear t c))
      (λ t. passes at_skip (λ l os g c. Skips.skip t c))

  -- inside a message
  module _ {md : Mode} {fs : List Bool} {n : ℕ} {m : List ℕ} (z : Stands md fs m) (e : take n buf ≡ m) (k : length m ≡ n) (h : n ≤ limit) where
    turn-follows : clears b ≡ false → n < limit → (t : Turn) → Reached t m b → Follows limit (End.inside m) b (length buf) (act (outcome_of t) n buf b)
    turn-follows c i (Turn.to md' fs') y = keeps y e k i (λ l os g d. rw (append_assoc m (b ∷ []) l) at d)
    turn-follows c i Turn.ended y =
        record {
          next = End.between;
          stands = at_gap;
          same_length = length-set buf n b;
          gives = λ l os g d. rw (stored buf n b e (omega arith)) (Stream.whole (sym (append_assoc m (b ∷ []) l)) (closes-message y) (omega (arith, length_snoc m b)) d);
        }
    turn-follows c i Turn.stuck y = refuses at_skip (λ l os g d. Stream.lost refl (Refuses.fault (Belongs.later (stands-begun z) c) (omega arith) (stuck_never m b y)) d)
    turn-follows c i Turn.over y = refuses at_skip (λ l os g d. Stream.lost refl (Refuses.deep (Belongs.later (stands-begun z) c) (omega arith) (over-not m b y) (over-deeper m b y)) d)

    message-follows : Follows limit (End.inside m) b (length buf) (act (byte limit (Standing.inside md fs n) b) n buf b)
    unfolding byte
    message-follows =
        by (λ (o : Outcome). Follows limit (End.inside m) b (length buf) (act o n buf b)) (clears b)
        (λ t. refuses at_gap (λ l os g c. Stream.cleared b refl (stands-begun z) (omega arith) t c))
        (λ t.
        by (λ (o : Outcome). Follows limit (End.inside m) b (length buf) (act o n buf b)) (ltb n limit) (λ u. turn-follows t (ltb-true n limit u) (turn md fs b) (stands-turn b z))
        (λ u. refuses at_skip (λ l os g c. Stream.lost refl (Refuses.long (Belongs.later (stands-begun z) t) (omega (arith, ltb-false n limit u))) c)))

  step_follows : {s : Standing} {e : End} → At limit s buf e → Follows limit e b (length buf) (step limit s buf b)
  unfolding step
  step_follows at_gap = gap-follows
  step_follows at_skip = skip-follows
  step_follows (at_message z e k h) = message-follows z e k h

-- a run, from wherever the reader can stand
pub record Fits (limit : ℕ) (e : End) (l : List ℕ) (r : Run) : Type 0 where
  pub end : End
  pub stands : At limit r.standing r.buffer end
  pub gives : Continues limit e l r.outputs end

nothing : {limit : ℕ} {s : Standing} {buf : List ℕ} {e : End} → At limit s buf e → Continues limit e [] [] e
nothing at_gap = Stream.done
nothing at_skip = Skips.over
nothing (at_message {m = m} z e k h) = rw (append-nil m) (Stream.begun (stands-begun z) (omega arith))

pub run_fits : {limit : ℕ} (l : List ℕ) {s : Standing} {buf : List ℕ} {e : End} → limit ≤ length buf → At limit s buf e → Fits limit e l (run limit s buf l)
unfolding run
run_fits [] {e = e} h z = record { end = e; stands = z; gives = nothing z }
run_fits {limit} (b ∷ l) {s} {buf} {e} h z =
    let f = step_follows limit buf b h z in
    let r = run_fits l (omega (arith, f.same_length)) f.stands in
    record { end = r.end; stands = r.stands; gives = f.gives l _ r.end r.gives }
