-- Reference, Streams: a stream of bytes, what it gives message by message, and where it ends. A rule a sentence, in the grammar's terms.
use Prim.Native.{Nat.ℕ, Nat.suc, Nat.◌≤◌, Nat.◌<◌, Nat.min, Char.code}
use mathlib.Core.{Path.◌≡◌, Bool.Bool, Bool.true, Bool.false, Bool.not, Bool.◌||◌, Bool.◌&&◌, List.List, List.[], List.◌∷◌, List.◌++◌}
use Rattle.std.specs.Prelude.{Option, Some, None, Result, Ok, Err, length, take, ltb, eqb}
use Rattle.grammar.specs.{Limits.message_bytes, Limits.message_levels, Tree.Json.arr, Tree.Json.obj, Tree.Items, Tree.Fields}
use Rattle.grammar.specs.{Lexis.blank, MessageText.message_lexis, MessageText.MessageText, Starts.Valid, Starts.Viable}
use Rattle.rules.specs.declared.MessageRefusal.{MessageRefusal}
use Rattle.rules.specs.declared.MessageRefusal.TheVariants.{TooLong, NotText, TooDeep}

-- a byte that clears: 0xFF, or one below 0x20 other than tab, CR and LF
abbrev pub clears : ℕ → Bool
clears b = eqb b 0xFF || (ltb b 0x20 && not (blank b))

-- a byte that opens an object or an array
abbrev pub opens : ℕ → Bool
opens b = eqb b (code "{") || eqb b (code "[")

abbrev pub opened : List ℕ → Bool
opened [] = false
opened (b ∷ l) = opens b

-- a whole message: message text that is one object or array from its first byte to its last
pub data Message (m : List ℕ) : Type 0 where
  object : {fs : Fields} → MessageText m (obj 0 (length m) fs) → Message m
  array : {js : Items} → MessageText m (arr 0 (length m) js) → Message m

-- a message that has begun: its first byte opens it, more bytes can make message text of it, and it is none yet, so that its outermost bracket is open
pub record Begun (m : List ℕ) : Type 0 where
  pub starts : opened m ≡ true
  pub viable : Viable message_lexis message_levels m
  pub unclosed : Valid message_lexis message_levels m → ⊥

-- the byte b belongs to a message, after its bytes m: it opens it, or the message has begun and b does not clear
pub data Belongs : List ℕ → ℕ → Type 0 where
  first : {b : ℕ} → opens b ≡ true → Belongs [] b
  later : {m : List ℕ} {b : ℕ} → Begun m → clears b ≡ false → Belongs m b

-- `Refuses limit m b x`: where a message has at most so many bytes, the byte b after m is refused by x
pub data Refuses (limit : ℕ) : List ℕ → ℕ → MessageRefusal → Type 0 where
  -- any other byte at the outermost level
  stray : {b : ℕ} → (blank b || clears b) ≡ false → opens b ≡ false → Refuses limit [] b NotText
  -- the first byte that no valid text could have there, with any number of levels
  fault : {m : List ℕ} {b : ℕ} → Belongs m b → length m < limit → ((n : ℕ) → Viable message_lexis n (m ++ (b ∷ [])) → ⊥) → Refuses limit m b NotText
  -- the first byte that no valid text within the levels could have there, but one with a level more
  deep : {m : List ℕ} {b : ℕ} → Belongs m b → length m < limit → (Viable message_lexis message_levels (m ++ (b ∷ [])) → ⊥)
      → Viable message_lexis (suc message_levels) (m ++ (b ∷ [])) → Refuses limit m b TooDeep
  -- a message's byte past the limit, whatever it is
  long : {m : List ℕ} {b : ℕ} → Belongs m b → length m ≡ limit → Refuses limit m b TooLong

-- what is handed out
pub data Output : Type 0 where
  message : List ℕ → Output
  refused : MessageRefusal → Output

-- where the bytes end: between messages, in what a refusal skips, or inside a message with its bytes so far
pub data End : Type 0 where
  between skipping : End
  inside : List ℕ → End

-- `Stream limit l os e`: the bytes l give the outputs os, in this order, and end at e
mutual
  pub data Stream (limit : ℕ) : List ℕ → List Output → End → Type 0 where
    done : Stream limit [] [] between
    -- blanks and clearing bytes between messages give nothing
    gap : {b : ℕ} {l : List ℕ} {os : List Output} {e : End} → (blank b || clears b) ≡ true → Stream limit l os e → Stream limit (b ∷ l) os e
    -- a whole message
    whole : {x m l : List ℕ} {os : List Output} {e : End} → x ≡ m ++ l → Message m → length m ≤ limit → Stream limit l os e → Stream limit x (message m ∷ os) e
    -- a message that has begun
    begun : {m : List ℕ} → Begun m → length m ≤ limit → Stream limit m [] (inside m)
    -- a clearing byte drops what was begun and starts afresh
    cleared : {x m l : List ℕ} (b : ℕ) {os : List Output} {e : End}
        → x ≡ m ++ (b ∷ l) → Begun m → length m ≤ limit → clears b ≡ true → Stream limit l os e → Stream limit x (refused NotText ∷ os) e
    -- a refused byte loses the message
    lost : {x m l : List ℕ} {b : ℕ} {r : MessageRefusal} {os : List Output} {e : End} → x ≡ m ++ (b ∷ l) → Refuses limit m b r → Skips limit l os e → Stream limit x (refused r ∷ os) e

  -- after a refusal all is skipped, up to and with the next clearing byte
  pub data Skips (limit : ℕ) : List ℕ → List Output → End → Type 0 where
    over : Skips limit [] [] skipping
    skip : {b : ℕ} {l : List ℕ} {os : List Output} {e : End} → clears b ≡ false → Skips limit l os e → Skips limit (b ∷ l) os e
    clear : {b : ℕ} {l : List ℕ} {os : List Output} {e : End} → clears b ≡ true → Stream limit l os e → Skips limit (b ∷ l) os e

-- the refusals that a stream gives
pub data OfText : MessageRefusal → Type 0 where
  too_long : OfText TooLong
  not_text : OfText NotText
  too_deep : OfText TooDeep

-- the most bytes of a message where so many are lent for it
abbrev pub limit_of : ℕ → ℕ
limit_of lent = min message_bytes lent

-- what a call hands out: a message of so many bytes, nothing, since its piece is over, or a refusal
abbrev pub Said : Type 0
Said = Result (Option ℕ) MessageRefusal

-- that, before what later calls do; a message is at the start of the buffer that the call leaves
abbrev pub onto : Said → List ℕ → List Output → List Output
onto (Ok None) buf os = os
onto (Ok (Some n)) buf os = message (take n buf) ∷ os
onto (Err x) buf os = refused x ∷ os
