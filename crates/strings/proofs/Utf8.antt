-- The bytes of UTF-8, as their readers count them: how many are wanted, and the range of the first.
-- The machine's seven states come to this by induction on the bytes.
use Prim.Native.Nat.{ℕ, suc, ◌+◌, ◌*◌, ◌-◌, ◌≤◌, ◌<◌}
use native.Mathlib.Omega.{arith}
use native.Mathlib.Numerals.{add-one}
use mathlib.Core.Path.{◌≡◌, refl, sym, ◌∙◌}
use mathlib.Core.Bool.{Bool, true, false, cond}
use mathlib.Core.List.{List, [], ◌∷◌}
use lib.ListN.{length, get_or, drop, drop_of_length-le}
use lib.Seq.{drop-cons}
use Rattle.grammar.specs.Notation.{within}
use Rattle.grammar.specs.MessageText.{join}
use Rattle.grammar.specs.Serving.Machine.CharStep.{bad}
use Rattle.grammar.specs.Serving.Machine.Message.{message, Want, lowest, highest, wanted, char_step}
use Rattle.grammar.specs.Serving.Machine.Message.CharState.{utf8}
use Rattle.grammar.specs.Serving.Machine.Message.Want.{one, two, two_E0, two_ED, three, three_F0, three_F4}
use Rattle.grammar.proofs.Booleans.{within-true, within-is, within-below, within-above}
use Rattle.std.specs.Prelude.{Err}
use Rattle.strings.specs.declared.chars.Fault.{Fault}
use Rattle.strings.specs.Chars.{CharRead, Code, FaultAt, char_rest, char_next, rest_at, TailByte, TailByte.no_byte, TailByte.wrong_byte, TailByte.tail_byte, utf8_rest, utf8_at}
use Rattle.strings.proofs.CharRuns.{rest_cons}

-- how many bytes are wanted after the next
abbrev pub more : Want → ℕ
more one = 0
more two = 1
more two_E0 = 1
more two_ED = 1
more three = 2
more three_F0 = 2
more three_F4 = 2

wanted-next : (n : Want) (v p : ℕ) (l : List ℕ)
    → ((m : Want) → char_rest message (utf8 m v) (suc p) l ≡ utf8_rest (suc (more m)) (lowest m) (highest m) v (suc p) l)
    → char_next message (wanted n v) p l ≡ utf8_rest (more n) 0x80 0xBF v (suc p) l
unfolding utf8_rest
wanted-next one v p l ih = refl
wanted-next two v p l ih = ih one
wanted-next two_E0 v p l ih = ih one
wanted-next two_ED v p l ih = ih one
wanted-next three v p l ih = ih two
wanted-next three_F0 v p l ih = ih two
wanted-next three_F4 v p l ih = ih two

utf8_rest_lem : (l : List ℕ) (n : Want) (v p : ℕ) → char_rest message (utf8 n v) p l ≡ utf8_rest (suc (more n)) (lowest n) (highest n) v p l
unfolding char_rest char_step utf8_rest
utf8_rest_lem [] n v p = refl
utf8_rest_lem (b ∷ l) n v p = rest_cons message (utf8 n v) p b l ∙ go (within (lowest n) (highest n) b) (wanted-next n (join v b) p l (λ m. utf8_rest_lem l m (join v b) (suc p)))
  where
    go : (t : Bool) → char_next message (wanted n (join v b)) p l ≡ utf8_rest (more n) 0x80 0xBF (join v b) (suc p) l
        → char_next message (cond t (wanted n (join v b)) bad) p l
        ≡ elim t as (λ _. CharRead) [ true ↦ utf8_rest (more n) 0x80 0xBF (join v b) (suc p) l | false ↦ FaultAt p ]
    go true e = e
    go false e = refl

pub utf8_at_lem : (n : Want) (v : ℕ) (s : List ℕ) (i : ℕ) → utf8_at (suc (more n)) (lowest n) (highest n) v s i ≡ rest_at message (utf8 n v) s i
unfolding utf8_at rest_at
utf8_at_lem n v s i = sym (utf8_rest_lem (drop i s) n v i)

-- a byte, and n more
module _ {low high v : ℕ} {s : List ℕ} {i : ℕ} where
  pub byte-below : i < length s → get_or s i 0 < low → TailByte low high v s i (FaultAt i)
  byte-below h g = wrong_byte h (within-below low high _ g)

  pub byte_above : i < length s → high < get_or s i 0 → TailByte low high v s i (FaultAt i)
  byte_above h g = wrong_byte h (within-above low high _ g)

  pub byte_joins : {b : ℕ} → i < length s → b ≡ get_or s i 0 → low ≤ b → b ≤ high → TailByte low high v s i (Code (v * 64 + (b - 128)) (i + 1))
  byte_joins {b} h e f g = rw e (tail_byte h (within-is low high _ (rw e at f) (rw e at g)))

  pub bytes-fault : (n : ℕ) {f : Fault} → TailByte low high v s i (Err f) → Err f ≡ utf8_at (suc n) low high v s i
  unfolding utf8_at utf8_rest
  bytes-fault n (no_byte h) = rw (drop_of_length-le s h) refl
  bytes-fault n (wrong_byte h t) = rw (drop-cons s i 0 h, t, utf8_rest) refl

  pub bytes-code : (n : ℕ) {w e : ℕ} → TailByte low high v s i (Code w e) → utf8_at n 0x80 0xBF w s e ≡ utf8_at (suc n) low high v s i
  unfolding utf8_at utf8_rest
  bytes-code n (tail_byte h t) = rw (add-one, drop-cons s i 0 h, t, utf8_rest) refl

  pub byte-upto : {w e : ℕ} → TailByte low high v s i (Code w e) → w ≤ v * 64 + high
  byte-upto (tail_byte h t) = omega (arith, within-true low high (get_or s i 0) t)

  pub one_byte : {r : CharRead} → TailByte low high v s i r → r ≡ utf8_at 1 low high v s i
  unfolding utf8_at utf8_rest
  one_byte (no_byte h) = bytes-fault 0 (no_byte h)
  one_byte (wrong_byte h t) = bytes-fault 0 (wrong_byte h t)
  one_byte (tail_byte h t) = bytes-code 0 (tail_byte h t)
