-- Serves proofs: nobody has to believe it. The machine inside the tokens of schema text.
use Rattle.std.specs.Prelude.{ℕ, true, false, cond, List, eqb}
use Prim.Native.Char.{code}
use Rattle.std.proofs.Math.Option.{Option, some, none}
use Rattle.grammar.specs.Limits.{schema_levels}
use Rattle.grammar.specs.Notation.{text, within}
use Rattle.grammar.specs.Tree.{Scalar, Scalar.bool}
use Rattle.grammar.specs.Lexis.{blank}
use Rattle.grammar.specs.SchemaText.{schema_lexis}
use Rattle.grammar.specs.Serving.Machine.{CharStep, CharStep.stay, CharStep.char, CharStep.bad, TokenStep, TokenStep.off, spell, Dialect, Out, scan, read}

-- after a backslash
pub data CharState : Type 0 where
  escape : CharState

unfoldable pub char_start : ℕ → CharStep CharState
char_start b = cond (eqb b (code "\\")) (stay escape) (cond (within 0x20 0x7E b) (char b) bad)

unfoldable pub char_step : CharState → ℕ → CharStep CharState
char_step escape b = cond (eqb b (code "\\")) (char (code "\\")) bad

-- inside a word
pub data TokenState : Type 0 where
  word : ℕ → List ℕ → Scalar → TokenState

unfoldable pub token_start : ℕ → Option TokenState
token_start b =
    cond (eqb b (code "t")) (some (word (code "r") (text "ue") (bool true)))
    (cond (eqb b (code "f")) (some (word (code "a") (text "lse") (bool false))) none)

unfoldable pub token_step : TokenState → ℕ → TokenStep TokenState
token_step (word w ws v) b = cond (eqb b w) (spell word ws v) off

abbrev pub schema : Dialect
schema =
    record {
      lexis = schema_lexis;
      CharState = CharState;
      char_start = λ b. char_start b;
      char_step = λ s b. char_step s b;
      TokenState = TokenState;
      token_start = λ b. token_start b;
      token_step = λ s b. token_step s b;
      token_end = λ s. none;
      stops = λ b. true;
    }

-- the objects of a schema text
unfoldable pub read_schema : List ℕ → Out
unfolding read scan blank char_start char_step token_start token_step
read_schema l = read schema schema_levels l
