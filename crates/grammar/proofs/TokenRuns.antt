-- Runs of a dialect's machine inside a character and inside a word or number, and what a dialect owes of them: three records of laws.
-- The later proofs are over any dialect with these laws; each dialect proves them once.
use Prim.Native.Nat.{ℕ, suc}
use Prim.Native.Char.{code}
use mathlib.Core.Path.{◌≡◌}
use mathlib.Core.Bool.{true, false}
use mathlib.Core.List.{List, [], ◌∷◌, ◌++◌}
use mathlib.Core.Option.{some}
use lib.Dec.{eqb}
use Rattle.grammar.specs.Tree.{Scalar}
use Rattle.grammar.specs.Serving.Machine.{CharStep, CharStep.stay, CharStep.char, TokenStep, TokenStep.on, TokenStep.last, TokenStep.past, Dialect}

-- RFC 8259, 2: the structural characters
pub data Structural : ℕ → Type 0 where
  begin_array : Structural (code "[")
  begin_object : Structural (code "{")
  end_array : Structural (code "]")
  end_object : Structural (code "}")
  name_separator : Structural (code ":")
  value_separator : Structural (code ",")

module _ (D : Dialect) where
  -- the rest of a character, after a step
  pub data CharRun : CharStep D.CharState → ℕ → List ℕ → ℕ → List ℕ → ℕ → Type 0 where
    char_whole : {p c : ℕ} {l : List ℕ} → CharRun (char c) p l p l c
    char_on : {p q b c : ℕ} {l r : List ℕ} {s : D.CharState} → CharRun (D.char_step s b) (suc p) l q r c → CharRun (stay s) p (b ∷ l) q r c

  -- the rest of a word or number, after a step
  pub data TokenRun : TokenStep D.TokenState → ℕ → List ℕ → ℕ → List ℕ → Scalar → Type 0 where
    token_last : {p : ℕ} {l : List ℕ} {v : Scalar} → TokenRun (last v) p l p l v
    token_finished : {p : ℕ} {s : D.TokenState} {v : Scalar} → D.token_end s ≡ some v → TokenRun (on s) p [] p [] v
    token_past : {p b : ℕ} {l : List ℕ} {s : D.TokenState} {v : Scalar} → D.token_step s b ≡ past v → TokenRun (on s) p (b ∷ l) p (b ∷ l) v
    token_on : {p q b : ℕ} {l r : List ℕ} {s : D.TokenState} {v : Scalar} → TokenRun (D.token_step s b) (suc p) l q r v → TokenRun (on s) p (b ∷ l) q r v

  -- what the machine reads is what the lexis has
  pub record TokensSound : Type 0 where
    pub chars : {p q b c : ℕ} {l r : List ℕ} → D.lexis.quote b ≡ false → CharRun (D.char_start b) (suc p) l q r c → D.lexis.Char p (b ∷ l) q r c
    pub tokens : {p q b : ℕ} {l r : List ℕ} {s : D.TokenState} {v : Scalar} → D.token_start b ≡ some s → TokenRun (on s) (suc p) l q r v → D.lexis.Unquoted p (b ∷ l) q r v

  -- a byte that neither stands between tokens nor starts a comment
  pub record Solid (b : ℕ) : Type 0 where
    pub no_blank : D.lexis.blank b ≡ false
    pub no_comment : D.lexis.comment b ≡ false

  -- a byte that can start a string, a word or a number
  pub record First (b : ℕ) : Type 0 where
    pub solid : Solid b
    pub no_end_array : eqb b (code "]") ≡ false
    pub no_end_object : eqb b (code "}") ≡ false

  pub data CharStarts : ℕ → List ℕ → ℕ → List ℕ → ℕ → Type 0 where
    char_starts : {p q b c : ℕ} {l r : List ℕ} → D.lexis.quote b ≡ false → CharRun (D.char_start b) (suc p) l q r c → CharStarts p (b ∷ l) q r c

  pub data TokenStarts : ℕ → List ℕ → ℕ → List ℕ → Scalar → Type 0 where
    token_starts : {p q b : ℕ} {l r : List ℕ} {s : D.TokenState} {v : Scalar}
        → First b → D.lexis.quote b ≡ false → eqb b (code "[") ≡ false → eqb b (code "{") ≡ false → D.token_start b ≡ some s → TokenRun (on s) (suc p) l q r v
        → TokenStarts p (b ∷ l) q r v

  -- after a word or a number stands a byte that does not continue it, or the end
  abbrev pub Stopped : List ℕ → Type 0
  Stopped [] = Unit {0}
  Stopped (b ∷ l) = D.stops b ≡ true

  -- what the lexis has the machine reads
  pub record TokensComplete : Type 0 where
    pub stops_blank : (b : ℕ) → D.lexis.blank b ≡ true → D.stops b ≡ true
    pub stops_comment : (b : ℕ) → D.lexis.comment b ≡ true → D.stops b ≡ true
    pub stops_structural : {b : ℕ} → Structural b → D.stops b ≡ true
    pub solid : {b : ℕ} → Structural b → Solid b
    pub no_quote : {b : ℕ} → Structural b → D.lexis.quote b ≡ false
    pub comment_no_blank : (b : ℕ) → D.lexis.comment b ≡ true → D.lexis.blank b ≡ false
    pub quote_first : (b : ℕ) → D.lexis.quote b ≡ true → First b
    pub chars : {p q c : ℕ} {l r : List ℕ} → D.lexis.Char p l q r c → CharStarts p l q r c
    pub tokens : {p q : ℕ} {l r : List ℕ} {v : Scalar} → D.lexis.Unquoted p l q r v → Stopped r → TokenStarts p l q r v

  -- a character, and a word or number, that is begun in state s is completed by l
  pub record CharEnds (s : D.CharState) (p : ℕ) (l r : List ℕ) : Type 0 where
    pub place : ℕ
    pub code_point : ℕ
    pub run : CharRun (stay s) p l place r code_point

  pub record TokenEnds (s : D.TokenState) (p : ℕ) (l r : List ℕ) : Type 0 where
    pub place : ℕ
    pub scalar : Scalar
    pub run : TokenRun (on s) p l place r scalar

  -- what is begun can be completed
  pub record TokensCompletable : Type 0 where
    pub quote_byte : ℕ
    pub is_quote : D.lexis.quote quote_byte ≡ true
    pub char_rest : D.CharState → List ℕ
    pub char_ends : (s : D.CharState) (p : ℕ) (r : List ℕ) → CharEnds s p (char_rest s ++ r) r
    pub token_rest : D.TokenState → List ℕ
    pub token_ends : (s : D.TokenState) (p : ℕ) (r : List ℕ) → Stopped r → TokenEnds s p (token_rest s ++ r) r
