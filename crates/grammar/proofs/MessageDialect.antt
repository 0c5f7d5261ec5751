-- The machine inside the tokens of message text has the three records of laws: sound, complete, completable.
-- The first two are put together from strings, words and numbers; for the third each state inside a character is given bytes that complete it.
use Prim.Native.Nat.{ℕ, suc, ◌+◌, ◌*◌}
use Prim.Native.Char.{code}
use native.Mathlib.Omega.{arith}
use mathlib.Core.Path.{◌≡◌, refl}
use mathlib.Core.Bool.{Bool, true, false, cond, ◌&&◌, ◌||◌}
use mathlib.Core.List.{List, [], ◌∷◌, ◌++◌}
use lib.Dec.{eqb, leb}
use borrow.Author.Tests.{eqb-true, leb-true, lt-leb}
use Rattle.grammar.specs.Notation.{text, within}
use Rattle.grammar.specs.Lexis.{blank}
use Rattle.grammar.specs.MessageText.{hex_digit}
use Rattle.grammar.specs.Serving.Machine.{CharStep.stay, CharStep.char}
use Rattle.grammar.specs.Serving.Machine.Message.{message, Want, CharState, char_step, escape_of, stops}
use Rattle.grammar.specs.Serving.Machine.Message.Want.{one, two, two_E0, two_ED, three, three_F0, three_F4}
use Rattle.grammar.specs.Serving.Machine.Message.CharState.{escape, hex0, hex1, hex2, hex3, low_backslash, low_u, low0, low1, low2, low3, utf8}
use Rattle.grammar.proofs.Booleans.{clash, either}
use Rattle.grammar.proofs.TokenRuns.{Structural, CharRun, CharRun.char_whole, CharRun.char_on, Solid, CharEnds, TokensSound, TokensComplete, TokensCompletable}
use Rattle.grammar.proofs.TokenRuns.Structural.{begin_array, begin_object, end_array, end_object, name_separator, value_separator}
use Rattle.grammar.proofs.StringsSound.{char-sound}
use Rattle.grammar.proofs.StringsComplete.{char-complete}
use Rattle.grammar.proofs.MessageTokens.{first, token-sound, token-complete, token_rest, token_ends}

pub message-tokens-sound : TokensSound message
message-tokens-sound = record { chars = λ t w. char-sound t w; tokens = λ e w. token-sound e w }

-- tests on a given byte
stops_blank : (b : ℕ) → blank b ≡ true → stops b ≡ true
unfolding blank stops
stops_blank b =
    either (eqb b (code " ") || eqb b (code "\t") || eqb b (code "\n")) (eqb b (code "\r"))
    (either (eqb b (code " ") || eqb b (code "\t")) (eqb b (code "\n"))
    (either (eqb b (code " ")) (eqb b (code "\t")) (at (code " ") refl) (at (code "\t") refl)) (at (code "\n") refl))
    (at (code "\r") refl)
  where
    at : (a : ℕ) → stops a ≡ true → eqb b a ≡ true → stops b ≡ true
    at a h t = rw (eqb-true b a t) h

stops_structural : {b : ℕ} → Structural b → stops b ≡ true
unfolding stops
stops_structural begin_array = refl
stops_structural begin_object = refl
stops_structural end_array = refl
stops_structural end_object = refl
stops_structural name_separator = refl
stops_structural value_separator = refl

structural_solid : {b : ℕ} → Structural b → Solid message b
unfolding blank
structural_solid begin_array = record { no_blank = refl; no_comment = refl }
structural_solid begin_object = record { no_blank = refl; no_comment = refl }
structural_solid end_array = record { no_blank = refl; no_comment = refl }
structural_solid end_object = record { no_blank = refl; no_comment = refl }
structural_solid name_separator = record { no_blank = refl; no_comment = refl }
structural_solid value_separator = record { no_blank = refl; no_comment = refl }

structural_no_quote : {b : ℕ} → Structural b → eqb b (code "\"") ≡ false
structural_no_quote begin_array = refl
structural_no_quote begin_object = refl
structural_no_quote end_array = refl
structural_no_quote end_object = refl
structural_no_quote name_separator = refl
structural_no_quote value_separator = refl

pub message-tokens-complete : TokensComplete message
unfolding blank
message-tokens-complete =
    record {
      stops_blank = λ b t. stops_blank b t;
      stops_comment = λ b t. clash t refl;
      stops_structural = λ s. stops_structural s;
      solid = λ s. structural_solid s;
      no_quote = λ s. structural_no_quote s;
      comment_no_blank = λ b t. clash t refl;
      quote_first = λ b t. rw (eqb-true b (code "\"") t) (first (code "\"") refl refl refl);
      chars = λ w. char-complete w;
      tokens = λ w g. token-complete w g;
    }

-- bytes that complete a character: zeros for digits, and a low surrogate after a high one
abbrev low_rest : List ℕ
low_rest = text "\\udc00"

abbrev hex3_rest : ℕ → List ℕ
hex3_rest v = code "0" ∷ cond (within 0xD800 0xDBFF (v * 16 + 0)) low_rest []

abbrev utf8_rest : Want → List ℕ
utf8_rest one = 0x80 ∷ []
utf8_rest two = 0x80 ∷ 0x80 ∷ []
utf8_rest two_E0 = 0xA0 ∷ 0x80 ∷ []
utf8_rest two_ED = 0x80 ∷ 0x80 ∷ []
utf8_rest three = 0x80 ∷ 0x80 ∷ 0x80 ∷ []
utf8_rest three_F0 = 0x90 ∷ 0x80 ∷ 0x80 ∷ []
utf8_rest three_F4 = 0x80 ∷ 0x80 ∷ 0x80 ∷ []

abbrev char_rest : CharState → List ℕ
char_rest escape = text "/"
char_rest hex0 = text "0000"
char_rest (hex1 v) = code "0" ∷ code "0" ∷ hex3_rest ((v * 16 + 0) * 16 + 0)
char_rest (hex2 v) = code "0" ∷ hex3_rest (v * 16 + 0)
char_rest (hex3 v) = hex3_rest v
char_rest (low_backslash h) = low_rest
char_rest (low_u h) = text "udc00"
char_rest (low0 h) = text "dc00"
char_rest (low1 h) = text "c00"
char_rest (low2 h v) = text "00"
char_rest (low3 h v) = text "0"
char_rest (utf8 n v) = utf8_rest n

ended : {s : CharState} {p q c : ℕ} {l r : List ℕ} → CharRun message (stay s) p l q r c → CharEnds message s p l r
ended {q = q} {c = c} w = record { place = q; code_point = c; run = w }

ended-on : {s t : CharState} {p b : ℕ} {l r : List ℕ} → char_step s b ≡ stay t → CharEnds message t (suc p) l r → CharEnds message s p (b ∷ l) r
ended-on {s} {t} {p} {b} {l} {r} e z =
    record { place = z.place; code_point = z.code_point; run = let w : CharRun message (char_step s b) (suc p) l z.place r z.code_point = rw e z.run in char_on w }

hex3_high : (v : ℕ) → within 0xD800 0xDBFF (v * 16 + 0) ≡ true → char_step (hex3 v) (code "0") ≡ stay (low_backslash (v * 16 + 0))
unfolding char_step hex_digit
hex3_high v e = simp e

hex3_char : (v : ℕ) → within 0xD800 0xDBFF (v * 16 + 0) ≡ false → char_step (hex3 v) (code "0") ≡ char (v * 16 + 0)
unfolding char_step hex_digit
hex3_char v e = simp e

hex2_on : (v : ℕ) → char_step (hex2 v) (code "0") ≡ stay (hex3 (v * 16 + 0))
unfolding char_step hex_digit
hex2_on v = refl

no_low-start : (v : ℕ) → within 0xDC 0xDF (v * 16 + 0) ≡ false
no_low-start v = go (leb 0xDC (v * 16 + 0)) refl
  where
    go : (y : Bool) → leb 0xDC (v * 16 + 0) ≡ y → (y && leb (v * 16 + 0) 0xDF) ≡ false
    go true t = lt-leb (v * 16 + 0) 0xDF (omega (arith, leb-true 0xDC (v * 16 + 0) t))
    go false t = refl

hex1_on : (v : ℕ) → char_step (hex1 v) (code "0") ≡ stay (hex2 (v * 16 + 0))
unfolding char_step hex_digit
hex1_on v = simp (no_low-start v)

low-ends : (h p : ℕ) (r : List ℕ) → CharEnds message (low_backslash h) p (low_rest ++ r) r
unfolding char_step hex_digit
low-ends h p r = ended (char_on (char_on (char_on (char_on (char_on (char_on char_whole))))))

hex3_ends : (v p : ℕ) (r : List ℕ) → CharEnds message (hex3 v) p (hex3_rest v ++ r) r
hex3_ends v p r = go (within 0xD800 0xDBFF (v * 16 + 0)) refl
  where
    go : (y : Bool) → within 0xD800 0xDBFF (v * 16 + 0) ≡ y → CharEnds message (hex3 v) p (code "0" ∷ (cond y low_rest [] ++ r)) r
    go true e = ended-on (hex3_high v e) (low-ends (v * 16 + 0) (suc p) r)
    go false e = let w : CharRun message (char_step (hex3 v) (code "0")) (suc p) r (suc p) r (v * 16 + 0) = rw (hex3_char v e) char_whole in ended (char_on w)

utf8-ends : (n : Want) (v p : ℕ) (r : List ℕ) → CharEnds message (utf8 n v) p (utf8_rest n ++ r) r
unfolding char_step
utf8-ends one v p r = ended (char_on char_whole)
utf8-ends two v p r = ended (char_on (char_on char_whole))
utf8-ends two_E0 v p r = ended (char_on (char_on char_whole))
utf8-ends two_ED v p r = ended (char_on (char_on char_whole))
utf8-ends three v p r = ended (char_on (char_on (char_on char_whole)))
utf8-ends three_F0 v p r = ended (char_on (char_on (char_on char_whole)))
utf8-ends three_F4 v p r = ended (char_on (char_on (char_on char_whole)))

char_ends : (s : CharState) (p : ℕ) (r : List ℕ) → CharEnds message s p (char_rest s ++ r) r
unfolding char_step hex_digit escape_of
char_ends escape p r = ended (char_on char_whole)
char_ends hex0 p r = ended (char_on (char_on (char_on (char_on char_whole))))
char_ends (hex1 v) p r = ended-on (hex1_on v) (ended-on (hex2_on (v * 16 + 0)) (hex3_ends ((v * 16 + 0) * 16 + 0) (suc (suc p)) r))
char_ends (hex2 v) p r = ended-on (hex2_on v) (hex3_ends (v * 16 + 0) (suc p) r)
char_ends (hex3 v) p r = hex3_ends v p r
char_ends (low_backslash h) p r = low-ends h p r
char_ends (low_u h) p r = ended (char_on (char_on (char_on (char_on (char_on char_whole)))))
char_ends (low0 h) p r = ended (char_on (char_on (char_on (char_on char_whole))))
char_ends (low1 h) p r = ended (char_on (char_on (char_on char_whole)))
char_ends (low2 h v) p r = ended (char_on (char_on char_whole))
char_ends (low3 h v) p r = ended (char_on char_whole)
char_ends (utf8 n v) p r = utf8-ends n v p r

pub message-tokens_completable : TokensCompletable message
message-tokens_completable = record { quote_byte = code "\""; is_quote = refl; char_rest = char_rest; char_ends = char_ends; token_rest = token_rest; token_ends = token_ends }
