-- The machine inside the tokens of schema text has the three records of laws: sound, complete, completable.
-- A character goes by the tests of its steps, a word by the laws of words.
use Prim.Native.Nat.{ℕ, suc}
use Prim.Native.Char.{code}
use mathlib.Core.Path.{◌≡◌, refl}
use mathlib.Core.Bool.{true, false}
use mathlib.Core.List.{List, [], ◌∷◌, ◌++◌}
use mathlib.Core.Logic.{◌≢◌}
use mathlib.Core.Option.{Option, some}
use lib.Dec.{eqb}
use borrow.Author.Tests.{eqb-true, eqb-false, ne_eqb}
use Rattle.grammar.specs.Notation.{text, within}
use Rattle.grammar.specs.Tree.{Scalar, Scalar.bool}
use Rattle.grammar.specs.Lexis.{blank, Spells.then_byte}
use Rattle.grammar.specs.SchemaText.{SchemaChar, SchemaChar.plain, SchemaChar.backslash, SchemaUnquoted, SchemaUnquoted.word_true, SchemaUnquoted.word_false}
use Rattle.grammar.specs.Serving.Machine.{CharStep, CharStep.stay, CharStep.char, CharStep.bad, TokenStep.on}
use Rattle.grammar.specs.Serving.Machine.Schema.{schema, CharState, CharState.escape, char_start, char_step, TokenState, TokenState.word, token_start, token_step}
use Rattle.grammar.proofs.Booleans.{by, none-not-some}
use Rattle.grammar.proofs.TokenRuns.{Structural, CharRun, CharRun.char_whole, CharRun.char_on, TokenRun, CharStarts, CharStarts.char_starts, TokenStarts}
use Rattle.grammar.proofs.TokenRuns.{TokenStarts.token_starts, Solid, First, CharEnds, TokenEnds, TokensSound, TokensComplete, TokensCompletable}
use Rattle.grammar.proofs.TokenRuns.Structural.{begin_array, begin_object, end_array, end_object, name_separator, value_separator}
use Rattle.grammar.proofs.Words.{in_state, Words, Spelled, word_sound, word-complete, word-ends}

bad-run : {A : Type 0} {p q c : ℕ} {l r : List ℕ} → CharRun schema bad p l q r c → A
bad-run = elim [ ]

escape-sound : {p q c : ℕ} {l r : List ℕ} → CharRun schema (stay escape) (suc p) l q r c → SchemaChar p (code "\\" ∷ l) q r c
unfolding char_step
escape-sound {p} {q} {c} (char_on {b = b} {l = l} {r = r} w) =
    by (λ k. CharRun schema k (suc (suc p)) l q r c → SchemaChar p (code "\\" ∷ b ∷ l) q r c) (eqb b (code "\\")) (λ t k. rw (eqb-true b (code "\\") t) (fin k)) (λ _ k. bad-run k) w
  where
    fin : {p q c : ℕ} {l r : List ℕ} → CharRun schema (char (code "\\")) (suc (suc p)) l q r c → SchemaChar p (code "\\" ∷ code "\\" ∷ l) q r c
    fin char_whole = backslash

char-sound : {p q b c : ℕ} {l r : List ℕ} → eqb b (code "'") ≡ false → CharRun schema (char_start b) (suc p) l q r c → SchemaChar p (b ∷ l) q r c
unfolding char_start
char-sound {p} {q} {b} {c} {l} {r} nq =
    let P : CharStep CharState → Type 0 = λ k. CharRun schema k (suc p) l q r c → SchemaChar p (b ∷ l) q r c in
    by P (eqb b (code "\\")) (λ t w. rw (eqb-true b (code "\\") t) (escape-sound w))
    (λ nb. by P (within 0x20 0x7E b) (λ t w. fin t (eqb-false b (code "'") nq) (eqb-false b (code "\\") nb) w) (λ _ w. bad-run w))
  where
    fin : {p q c : ℕ} {l r : List ℕ} → within 0x20 0x7E b ≡ true → b ≢ code "'" → b ≢ code "\\" → CharRun schema (char b) (suc p) l q r c → SchemaChar p (b ∷ l) q r c
    fin h f g char_whole = plain h f g

char-complete : {p q c : ℕ} {l r : List ℕ} → SchemaChar p l q r c → CharStarts schema p l q r c
unfolding char_start char_step
char-complete (plain {p = p} {b = b} {r = r} h n m) =
    let e : char_start b ≡ char b = simp (ne_eqb b (code "\\") m, h) in
    let z : CharRun schema (char_start b) (suc p) r (suc p) r b = rw e char_whole in
    char_starts (ne_eqb b (code "'") n) z
char-complete backslash = char_starts refl (char_on char_whole)

pub words : Words schema word
unfolding token_step
words = record { steps = λ w ws v b. refl; ends = λ w ws v. refl }

token-sound : {p q b : ℕ} {l r : List ℕ} {s : TokenState} {v : Scalar} → token_start b ≡ some s → TokenRun schema (on s) (suc p) l q r v → SchemaUnquoted p (b ∷ l) q r v
unfolding token_start
token-sound {p} {q} {b} {l} {r} {s} {v} =
    let P : Option TokenState → Type 0 = λ y. y ≡ some s → TokenRun schema (on s) (suc p) l q r v → SchemaUnquoted p (b ∷ l) q r v in
    by P (eqb b (code "t")) (λ t e w. rw (eqb-true b (code "t") t) (is_true (word_sound schema word words (code "r") (text "ue") (in_state e w))))
    (λ _. by P (eqb b (code "f")) (λ t e w. rw (eqb-true b (code "f") t) (is_false (word_sound schema word words (code "a") (text "lse") (in_state e w)))) (λ _ e. none-not-some e))
  where
    is_true : Spelled schema word (text "rue") (bool true) (suc p) l q r v → SchemaUnquoted p (code "t" ∷ l) q r v
    is_true z = rw z.same (word_true (then_byte z.bytes))

    is_false : Spelled schema word (text "alse") (bool false) (suc p) l q r v → SchemaUnquoted p (code "f" ∷ l) q r v
    is_false z = rw z.same (word_false (then_byte z.bytes))

pub schema-tokens-sound : TokensSound schema
schema-tokens-sound = record { chars = λ t w. char-sound t w; tokens = λ e w. token-sound e w }

-- tests on a given byte
solid : {b : ℕ} → blank b ≡ false → eqb b (code "#") ≡ false → Solid schema b
solid e f = record { no_blank = e; no_comment = f }

first : {b : ℕ} → Solid schema b → eqb b (code "]") ≡ false → eqb b (code "}") ≡ false → First schema b
first s f g = record { solid = s; no_end_array = f; no_end_object = g }

structural_solid : {b : ℕ} → Structural b → Solid schema b
unfolding blank
structural_solid begin_array = solid refl refl
structural_solid begin_object = solid refl refl
structural_solid end_array = solid refl refl
structural_solid end_object = solid refl refl
structural_solid name_separator = solid refl refl
structural_solid value_separator = solid refl refl

structural_no_quote : {b : ℕ} → Structural b → eqb b (code "'") ≡ false
structural_no_quote begin_array = refl
structural_no_quote begin_object = refl
structural_no_quote end_array = refl
structural_no_quote end_object = refl
structural_no_quote name_separator = refl
structural_no_quote value_separator = refl

token-complete : {p q : ℕ} {l r : List ℕ} {v : Scalar} → SchemaUnquoted p l q r v → TokenStarts schema p l q r v
unfolding token_start blank
token-complete (word_true (then_byte s)) = token_starts (first (solid refl refl) refl refl) refl refl refl refl (word-complete schema word words (code "r") (text "ue") s)
token-complete (word_false (then_byte s)) = token_starts (first (solid refl refl) refl refl) refl refl refl refl (word-complete schema word words (code "a") (text "lse") s)

pub schema-tokens-complete : TokensComplete schema
unfolding blank
schema-tokens-complete =
    record {
      stops_blank = λ b t. refl;
      stops_comment = λ b t. refl;
      stops_structural = λ s. refl;
      solid = λ s. structural_solid s;
      no_quote = λ s. structural_no_quote s;
      comment_no_blank = λ b t. rw (eqb-true b (code "#") t) refl;
      quote_first = λ b t. rw (eqb-true b (code "'") t) (first (solid refl refl) refl refl);
      chars = λ w. char-complete w;
      tokens = λ w g. token-complete w;
    }

char_ends : (s : CharState) (p : ℕ) (r : List ℕ) → CharEnds schema s p (code "\\" ∷ r) r
unfolding char_step
char_ends escape p r = record { place = suc p; code_point = code "\\"; run = char_on char_whole }

abbrev token_rest : TokenState → List ℕ
token_rest (word w ws v) = w ∷ ws

token_ends : (s : TokenState) (p : ℕ) (r : List ℕ) → TokenEnds schema s p (token_rest s ++ r) r
token_ends (word w ws v) p r = word-ends schema word words w ws v p r

pub schema-tokens_completable : TokensCompletable schema
schema-tokens_completable =
    record {
      quote_byte = code "'";
      is_quote = refl;
      char_rest = λ s. code "\\" ∷ [];
      char_ends = char_ends;
      token_rest = token_rest;
      token_ends = λ s p r f. token_ends s p r;
    }
