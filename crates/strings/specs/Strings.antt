-- Serves contracts: what a reader of a string found. Nobody has to believe it: the text reader's contract cites the grammar.
use Rattle.std.specs.Prelude.{ℕ, ◌+◌, ◌-◌, ◌≤◌, ◌<◌, ◌≡◌, Bool, true, false, not, ◌&&◌, List, [], eqb, length, get_or, take, drop}
use Prim.Native.Char.{code}
use Rattle.grammar.specs.Notation.{within, all}
use Rattle.grammar.specs.Grammar.{Chars}
use Rattle.grammar.specs.Serving.Machine.{Dialect, Stack, StringRole, Control, scan}
use Rattle.grammar.specs.Serving.Machine.Control.{InString}
use Rattle.grammar.specs.Serving.Machine.Out.{fault}
use Rattle.grammar.specs.Serving.Machine.Schema.{schema}
use Rattle.grammar.specs.Serving.Machine.Message.{message}
use Rattle.std.specs.Prelude.{Result, Ok, Err}
use Rattle.strings.specs.Classes.{class_of, plain_class}
use Rattle.strings.specs.declared.chars.Fault.{Fault}
use Rattle.strings.specs.declared.dialects.Dialect as Dialects
use Rattle.strings.specs.declared.dialects.Dialect.TheVariants.{Schema, Message}
use Rattle.strings.specs.declared.strings.Spelling.{Spelling}
use Rattle.strings.specs.declared.strings.Spelling.TheVariants.{Plain, Coded}
use Rattle.strings.specs.declared.strings.StringEnd.{StringEnd}

-- what a dialect that a reader is asked for means
abbrev pub grammar_of : Dialects.Dialect → Dialect
grammar_of Schema = schema
grammar_of Message = message

abbrev pub is_plain : Spelling → Bool
is_plain Plain = true
is_plain Coded = false

-- a byte that is its own code point in a string of either dialect
abbrev pub plain_byte : ℕ → Bool
plain_byte b = within 0x20 0x7F b && not (eqb b (code "\\"))

-- the string from place a to e, both quotes among them: between the quotes its bytes are its code points
unfoldable pub plain_string : List ℕ → ℕ → ℕ → Bool
plain_string s a e = all plain_byte (take (e - a - 2) (drop (a + 1) s))

module _ (D : Dialect) (s : List ℕ) where
  -- from place i on the machine stops at e, whatever the brackets around and the levels
  abbrev pub StopsAt : Control D → ℕ → ℕ → Type 0
  StopsAt c i e = (lim : ℕ) (k : Stack) → scan D lim c k i (drop i s) ≡ fault e

  -- the string from place a to e, both quotes among them, means cs
  pub record Means (a e : ℕ) (cs : List ℕ) : Type 0 where
    pub wide : a + 2 ≤ e
    pub within : e ≤ length s
    pub chars : Chars D.lexis (a + 1) (drop (a + 1) s) e (drop e s) cs

  abbrev pub StringTold : ℕ → Result StringEnd Fault → Type 0
  StringTold a (Ok r) = (cs : List ℕ) × Means a r.end cs × (plain_string s a r.end ≡ is_plain r.spelling)
  StringTold a (Err f) = (d : StringRole) → StopsAt (InString d []) (a + 1) f.at

-- what the reader of the string whose opening quote stands at place a answers
pub record ReadsString (D : Dialect) (s : List ℕ) (a : ℕ) (r : Result StringEnd Fault) : Type 0 where
  pub told : StringTold D s a r

-- from place i to e every byte of a message string is plain, and the one at e is not
pub record PlainEnd (s : List ℕ) (i e : ℕ) : Type 0 where
  pub on : i ≤ e
  pub within : i ≤ length s → e ≤ length s
  pub plain : (k : ℕ) → i ≤ k → k < e → plain_class (class_of (get_or s k 0)) ≡ true
  pub ends : e < length s → plain_class (class_of (get_or s e 0)) ≡ false
