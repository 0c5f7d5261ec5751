-- A call is the run over the bytes that it takes, so that calls one after the other are one run over all that they take; and what holds of each call.
-- Both by induction on the piece: a call goes on with the next byte as long as nothing is handed out.
use Prim.Native.Nat.{ℕ, suc, ◌≤◌, ◌<◌, suc-le-suc}
use native.Mathlib.Omega.{arith}
use mathlib.Core.Path.{◌≡◌, refl, ap, ◌∙◌}
use mathlib.Core.Bool.{◌||◌}
use mathlib.Core.List.{List, [], ◌∷◌, ◌++◌}
use lib.ListN.{length, take, drop, length-set}
use lib.Seq.{drop-set-lt}
use lib.Dec.{ltb}
use Rattle.std.specs.Prelude.{Some, None, Ok, Err}
use borrow.Author.Tests.{ltb-true}
use Rattle.grammar.specs.Lexis.{blank}
use Rattle.grammar.proofs.Booleans.{by}
use Rattle.stream.specs.Stream.{clears, opens, Said, OfText, OfText.too_long, OfText.not_text, OfText.too_deep}
use Rattle.stream.specs.Serving.Modes.{Turn, turn}
use Rattle.stream.specs.Serving.Feeding.{Standing, length_of, Outcome, outcome_of, byte, Step, act, step, Call, later, call, Run, handing, run}

-- a byte, by what is handed out then, where the reader stands and the buffer: it ends the call, or the call goes on
abbrev going : Said → Standing → List ℕ → Call → Call
going o u new c =
    elim o as (λ _. Call) [
      | Ok None ↦ later c
      | Ok (Some n) ↦ record { said = o; taken = 1; standing = u; buffer = new }
      | Err x ↦ record { said = o; taken = 1; standing = u; buffer = new }
    ]

-- the bytes that a call takes, and then any others
abbrev after : ℕ → Call → List ℕ → Run
after limit c l = handing c.said c.buffer (run limit c.standing c.buffer l)

module _ (limit : ℕ) (s : Standing) (buf : List ℕ) (b : ℕ) where
  run-byte : {t : Step} (l : List ℕ) → step limit s buf b ≡ t → run limit s buf (b ∷ l) ≡ handing t.said t.buffer (run limit t.standing t.buffer l)
  unfolding run
  run-byte l e = ap (λ (t : Step). handing t.said t.buffer (run limit t.standing t.buffer l)) e

pub call-then : (limit : ℕ) (l rest : List ℕ) (s : Standing) (buf : List ℕ) → run limit s buf (take (call limit s buf l).taken l ++ rest) ≡ after limit (call limit s buf l) rest
unfolding run call
call-then limit [] rest s buf = refl
call-then limit (b ∷ l) rest s buf =
    let t : Step = step limit s buf b in go t.said t.standing t.buffer refl (call-then limit l rest t.standing t.buffer)
  where
    go : (o : Said) (u : Standing) (new : List ℕ) → step limit s buf b ≡ record { said = o; standing = u; buffer = new }
        → run limit u new (take (call limit u new l).taken l ++ rest) ≡ after limit (call limit u new l) rest
        → run limit s buf (take (going o u new (call limit u new l)).taken (b ∷ l) ++ rest) ≡ after limit (going o u new (call limit u new l)) rest
    go (Ok None) u new e ih = run-byte limit s buf b (take (call limit u new l).taken l ++ rest) e ∙ ih
    go (Ok (Some n)) u new e ih = run-byte limit s buf b rest e
    go (Err x) u new e ih = run-byte limit s buf b rest e

-- What holds of each call. What is handed out has its limits
abbrev pub Proper : ℕ → Said → Type 0
Proper limit (Ok None) = Unit {0}
Proper limit (Ok (Some n)) = (0 < n) × (n ≤ limit)
Proper limit (Err x) = OfText x

pub record Holds (limit : ℕ) (old : List ℕ) (bytes : ℕ) (c : Call) : Type 0 where
  -- where nothing is handed out the whole piece is taken, else a byte of it at least
  pub all_taken : c.said ≡ Ok None → c.taken ≡ bytes
  pub some_taken : (c.said ≡ Ok None → ⊥) → 0 < c.taken
  pub within : c.taken ≤ bytes
  pub proper : Proper limit c.said
  -- the buffer keeps its length, and what is past the limit
  pub same_length : length c.buffer ≡ length old
  pub rest_kept : drop limit c.buffer ≡ drop limit old

-- a byte is kept only below the limit
abbrev Allowed : ℕ → ℕ → Outcome → Type 0
Allowed limit n (Outcome.pass t) = Unit {0}
Allowed limit n (Outcome.keep md fs) = n < limit
Allowed limit n Outcome.ends = n < limit
Allowed limit n (Outcome.refuse x t) = OfText x

turn_allowed : {limit n : ℕ} → n < limit → (t : Turn) → Allowed limit n (outcome_of t)
turn_allowed h (Turn.to md fs) = h
turn_allowed h Turn.ended = h
turn_allowed h Turn.stuck = not_text
turn_allowed h Turn.over = too_deep

byte_allowed : (limit : ℕ) (s : Standing) (b : ℕ) → Allowed limit (length_of s) (byte limit s b)
unfolding byte
byte_allowed limit Standing.between b =
    by (Allowed limit 0) (blank b || clears b) (λ t. tt) (λ t. by (Allowed limit 0) (opens b) (λ u. by (Allowed limit 0) (ltb 0 limit) (λ v. ltb-true 0 limit v) (λ v. too_long)) (λ u. not_text))
byte_allowed limit Standing.skipping b = by (Allowed limit 0) (clears b) (λ t. tt) (λ t. tt)
byte_allowed limit (Standing.inside md fs n) b =
    by (Allowed limit n) (clears b) (λ t. not_text) (λ t. by (Allowed limit n) (ltb n limit) (λ u. turn_allowed (ltb-true n limit u) (turn md fs b)) (λ u. too_long))

record StepHolds (limit : ℕ) (old : List ℕ) (t : Step) : Type 0 where
  proper : Proper limit t.said
  same_length : length t.buffer ≡ length old
  rest_kept : drop limit t.buffer ≡ drop limit old

act-holds : (limit : ℕ) (o : Outcome) (n : ℕ) (buf : List ℕ) (b : ℕ) → Allowed limit n o → StepHolds limit buf (act o n buf b)
act-holds limit (Outcome.pass t) n buf b h = record { proper = tt; same_length = refl; rest_kept = refl }
act-holds limit (Outcome.keep md fs) n buf b h = record { proper = tt; same_length = length-set buf n b; rest_kept = drop-set-lt limit buf n b h }
act-holds limit Outcome.ends n buf b h = record { proper = (omega arith, h); same_length = length-set buf n b; rest_kept = drop-set-lt limit buf n b h }
act-holds limit (Outcome.refuse x t) n buf b h = record { proper = h; same_length = refl; rest_kept = refl }

step-holds : (limit : ℕ) (s : Standing) (buf : List ℕ) (b : ℕ) → StepHolds limit buf (step limit s buf b)
unfolding step
step-holds limit s buf b = act-holds limit (byte limit s b) (length_of s) buf b (byte_allowed limit s b)

pub call-holds : (limit : ℕ) (l : List ℕ) (s : Standing) (buf : List ℕ) → Holds limit buf (length l) (call limit s buf l)
unfolding call
call-holds limit [] s buf = record { all_taken = λ e. refl; some_taken = λ h. absurd (h refl); within = omega arith; proper = tt; same_length = refl; rest_kept = refl }
call-holds limit (b ∷ l) s buf = let t : Step = step limit s buf b in go t.said t.standing t.buffer (step-holds limit s buf b) (call-holds limit l t.standing t.buffer)
  where
    over : {o : Said} {u : Standing} {new : List ℕ} → StepHolds limit buf (record { said = o; standing = u; buffer = new }) → (o ≡ Ok None → ⊥)
        → Holds limit buf (suc (length l)) (record { said = o; taken = 1; standing = u; buffer = new })
    over y h =
        record {
          all_taken = λ e. absurd (h e);
          some_taken = λ k. omega arith;
          within = omega arith;
          proper = y.proper;
          same_length = y.same_length;
          rest_kept = y.rest_kept;
        }

    go : (o : Said) (u : Standing) (new : List ℕ) → StepHolds limit buf (record { said = o; standing = u; buffer = new }) → Holds limit new (length l) (call limit u new l)
        → Holds limit buf (suc (length l)) (going o u new (call limit u new l))
    go (Ok None) u new y z =
        record {
          all_taken = λ e. ap suc (z.all_taken e);
          some_taken = λ k. omega arith;
          within = suc-le-suc z.within;
          proper = z.proper;
          same_length = z.same_length ∙ y.same_length;
          rest_kept = z.rest_kept ∙ y.rest_kept;
        }
    go (Ok (Some n)) u new y z = over y (λ e. cc)
    go (Err x) u new y z = over y (λ e. cc)
