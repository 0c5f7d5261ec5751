-- Serves contracts and proofs. The reader of streams: a byte, a call over a piece up to the first output, and a run of calls over all bytes.
use Rattle.std.specs.Prelude.{ℕ, suc, Bool, cond, ◌||◌, List, [], ◌∷◌, Some, None, Ok, Err, set, ltb, eqb}
use Prim.Native.Char.{code}
use Rattle.grammar.specs.Lexis.{blank}
use Rattle.rules.specs.declared.MessageRefusal.{MessageRefusal}
use Rattle.rules.specs.declared.MessageRefusal.TheVariants.{TooLong, NotText, TooDeep}
use Rattle.stream.specs.Stream.{clears, opens, Output, Said, onto}
use Rattle.stream.specs.Serving.Modes.{Mode, Turn, Turn.to, Turn.ended, Turn.stuck, Turn.over, opened_mode, turn}

-- where the reader stands: between messages, in what a refusal skips, or inside a message: what is read next, the open brackets, and how many of its bytes are in the buffer
pub data Standing : Type 0 where
  between skipping : Standing
  inside : Mode → List Bool → ℕ → Standing

abbrev pub length_of : Standing → ℕ
length_of between = 0
length_of skipping = 0
length_of (inside md fs n) = n

-- a byte is passed over; kept, as the next byte of a message or as its last; or refused
pub data Outcome : Type 0 where
  pass : Standing → Outcome
  keep : Mode → List Bool → Outcome
  ends : Outcome
  refuse : MessageRefusal → Standing → Outcome

abbrev pub outcome_of : Turn → Outcome
outcome_of (to md fs) = keep md fs
outcome_of ended = ends
outcome_of stuck = refuse NotText skipping
outcome_of over = refuse TooDeep skipping

unfoldable pub byte : ℕ → Standing → ℕ → Outcome
unfolding blank turn
byte limit between b =
    cond (blank b || clears b) (pass between)
    (cond (opens b) (cond (ltb 0 limit) (keep (opened_mode (eqb b (code "{"))) (eqb b (code "{") ∷ [])) (refuse TooLong skipping)) (refuse NotText skipping))
byte limit skipping b = cond (clears b) (pass between) (pass skipping)
byte limit (inside md fs n) b = cond (clears b) (refuse NotText between) (cond (ltb n limit) (outcome_of (turn md fs b)) (refuse TooLong skipping))

-- what a byte does: what is handed out, where the reader stands then, and the buffer
pub record Step : Type 0 where
  pub said : Said
  pub standing : Standing
  pub buffer : List ℕ

-- a byte that is kept goes to its index n of the buffer
abbrev pub act : Outcome → ℕ → List ℕ → ℕ → Step
act (pass t) n buf b = record { said = Ok None; standing = t; buffer = buf }
act (keep md fs) n buf b = record { said = Ok None; standing = inside md fs (suc n); buffer = set buf n b }
act ends n buf b = record { said = Ok (Some (suc n)); standing = between; buffer = set buf n b }
act (refuse x t) n buf b = record { said = Err x; standing = t; buffer = buf }

unfoldable pub step : ℕ → Standing → List ℕ → ℕ → Step
unfolding byte
step limit s buf b = act (byte limit s b) (length_of s) buf b

-- a call: what it hands out, how many bytes of the piece it takes, where the reader stands then, and the buffer
pub record Call : Type 0 where
  pub said : Said
  pub taken : ℕ
  pub standing : Standing
  pub buffer : List ℕ

abbrev pub later : Call → Call
later c = record { said = c.said; taken = suc c.taken; standing = c.standing; buffer = c.buffer }

-- a call ends with the first byte that has something handed out
abbrev pub stop : Step → Call
stop t = record { said = t.said; taken = 1; standing = t.standing; buffer = t.buffer }

unfoldable pub call : ℕ → Standing → List ℕ → List ℕ → Call
unfolding step
call limit s buf [] = record { said = Ok None; taken = 0; standing = s; buffer = buf }
call limit s buf (b ∷ l) =
    let t = step limit s buf b in
    elim t.said [ Ok None ↦ later (call limit t.standing t.buffer l) | Ok (Some n) ↦ stop t | Err x ↦ stop t ]

-- a run of calls: all that is handed out, where the reader stands then, and the buffer
pub record Run : Type 0 where
  pub outputs : List Output
  pub standing : Standing
  pub buffer : List ℕ

abbrev pub handing : Said → List ℕ → Run → Run
handing o buf r = record { outputs = onto o buf r.outputs; standing = r.standing; buffer = r.buffer }

unfoldable pub run : ℕ → Standing → List ℕ → List ℕ → Run
unfolding step
run limit s buf [] = record { outputs = []; standing = s; buffer = buf }
run limit s buf (b ∷ l) = let t = step limit s buf b in handing t.said t.buffer (run limit t.standing t.buffer l)
