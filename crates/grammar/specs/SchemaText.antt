-- Reference, Text of schemas.
use Prim.Native.{Nat.ℕ, Nat.suc, Char.code}
use mathlib.Core.{Logic.◌≢◌, Path.◌≡◌, Bool.true, Bool.false, List.List, List.◌∷◌}
use Rattle.std.specs.Prelude.{eqb}
use Rattle.grammar.specs.{Limits.schema_levels, Notation.text, Notation.within, Tree.Scalar, Tree.Scalar.bool, Tree.Items}
use Rattle.grammar.specs.{Lexis.Lexis, Lexis.Spells, Lexis.blank, Grammar.Text}

-- in a string the bytes 0x20 to 0x7E; the only escape is two backslashes, which mean one
pub data SchemaChar : ℕ → List ℕ → ℕ → List ℕ → ℕ → Type 0 where
  plain : {p b : ℕ} {r : List ℕ} → within 0x20 0x7E b ≡ true → b ≢ code "'" → b ≢ code "\\" → SchemaChar p (b ∷ r) (suc p) r b
  backslash : {p : ℕ} {r : List ℕ} → SchemaChar p (code "\\" ∷ code "\\" ∷ r) (suc (suc p)) r (code "\\")

-- true and false; no numbers, no null
pub data SchemaUnquoted : ℕ → List ℕ → ℕ → List ℕ → Scalar → Type 0 where
  word_true : {p q : ℕ} {l r : List ℕ} → Spells (text "true") p l q r → SchemaUnquoted p l q r (bool true)
  word_false : {p q : ℕ} {l r : List ℕ} → Spells (text "false") p l q r → SchemaUnquoted p l q r (bool false)

-- comments start with #, strings stand in single quotes, a text is any number of objects
abbrev pub schema_lexis : Lexis
schema_lexis = record { blank = λ b. blank b; comment = λ b. eqb b (code "#"); quote = λ b. eqb b (code "'"); several = true; Char = SchemaChar; Unquoted = SchemaUnquoted }

-- the bytes are schema text, and these are its top-level objects
abbrev pub SchemaText : List ℕ → Items → Type 0
SchemaText l js = Text schema_lexis schema_levels l js
