-- Reference, Structure: the tokens of a dialect, in which schema text and message text differ.
-- Here and in the grammar `X p l q r ..` reads: at place p, where the bytes l are left, stands an X; it ends at place q, where r is left.
use Prim.Native.{Nat.ℕ, Nat.suc, Char.code}
use mathlib.Core.{Bool.Bool, Bool.◌||◌, List.List, List.[], List.◌∷◌}
use Rattle.std.specs.Prelude.{eqb}
use Rattle.grammar.specs.Tree.{Scalar}

-- Reference, Structure, and RFC 8259, 2 (ws): space, tab, LF, CR
unfoldable pub blank : ℕ → Bool
blank b = eqb b (code " ") || eqb b (code "\t") || eqb b (code "\n") || eqb b (code "\r")

-- the bytes w, one after the other
pub data Spells : List ℕ → ℕ → List ℕ → ℕ → List ℕ → Type 0 where
  spelled : {p : ℕ} {r : List ℕ} → Spells [] p r p r
  then_byte : {p q b : ℕ} {w l r : List ℕ} → Spells w (suc p) l q r → Spells (b ∷ w) p (b ∷ l) q r

-- what a dialect says of its own
pub record Lexis : Type 1 where
  -- bytes that may stand between tokens
  pub blank : ℕ → Bool
  -- bytes that start a comment
  pub comment : ℕ → Bool
  -- bytes that open and close a string
  pub quote : ℕ → Bool
  -- a text is any number of objects; if not, it is one value
  pub several : Bool
  -- `Char p l q r c`: a character inside a string, and the code point c that it means
  pub Char : ℕ → List ℕ → ℕ → List ℕ → ℕ → Type 0
  -- `Unquoted p l q r v`: a word or a number, and the scalar v that it means
  pub Unquoted : ℕ → List ℕ → ℕ → List ℕ → Scalar → Type 0
