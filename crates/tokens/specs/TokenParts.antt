-- Serves contracts: parts of tokens, in terms of the byte machine. Nobody has to believe it: the text reader's contract cites the grammar.
use Rattle.std.specs.Prelude.{ℕ, suc, ◌+◌, ◌≤◌, ◌<◌, ◌≡◌, Bool, false, ◌||◌, Result, Ok, Err, List, [], ◌∷◌, eqb, length, get_or, drop}
use Prim.Native.Char.{code}
use Rattle.grammar.specs.Tree.{Fields}
use Rattle.grammar.specs.Notation.{digit}
use Rattle.grammar.specs.Lexis.{Spells}
use Rattle.grammar.specs.Serving.Machine.{Dialect, Stack, Control, scan}
use Rattle.grammar.specs.Serving.Machine.Stack.{in_object}
use Rattle.grammar.specs.Serving.Machine.Control.{AtValue, AtColon, InComment}
use Rattle.strings.specs.Strings.{grammar_of, StopsAt}
use Rattle.strings.specs.declared.dialects.Dialect as Dialects
use Rattle.strings.specs.Chars.{FaultAt}
use Rattle.strings.specs.declared.chars.Fault.{Fault}
use Rattle.tokens.specs.Tokens.{ReadsScalar}
use Rattle.tokens.specs.declared.scalars.Scalar.{Scalar}

-- at place p, where l is left, the bytes w do not stand: the first that differs, or the end of l, is at place e
pub data Misspells : List ℕ → ℕ → List ℕ → ℕ → Type 0 where
  ended : {p b : ℕ} {w : List ℕ} → Misspells (b ∷ w) p [] p
  differs : {p b c : ℕ} {w l : List ℕ} → eqb c b ≡ false → Misspells (b ∷ w) p (c ∷ l) p
  later : {p b e : ℕ} {w l : List ℕ} → Misspells w (suc p) l e → Misspells (b ∷ w) p (b ∷ l) e

abbrev pub WordTold : List ℕ → ℕ → List ℕ → Result ℕ Fault → Type 0
WordTold s i w (Ok e) = (e ≡ i + length w) × (e ≤ length s) × Spells w i (drop i s) e (drop e s)
WordTold s i w (Err f) = Misspells w i (drop i s) f.at

-- what the reader of the bytes w at place i answers
pub record ReadsWord (s : List ℕ) (i : ℕ) (w : List ℕ) (r : Result ℕ Fault) : Type 0 where
  pub told : WordTold s i w r

abbrev pub begins_number : ℕ → Bool
begins_number b = eqb b (code "-") || digit b

abbrev pub KindTold : List ℕ → ℕ → List ℕ → ℕ → Result Scalar Fault → Type 0
KindTold s i w kind (Ok r) = (r.kind ≡ kind) × WordTold s i w (Ok r.end)
KindTold s i w kind (Err f) = WordTold s i w (Err f)

-- what the reader of these bytes as a node of that kind answers
pub record ReadsKind (s : List ℕ) (i : ℕ) (w : List ℕ) (kind : ℕ) (r : Result Scalar Fault) : Type 0 where
  pub told : KindTold s i w kind r

-- what the reader of true and false answers, in either dialect, if no value stands at place i where neither begins
pub record ReadsBool (s : List ℕ) (i : ℕ) (r : Result Scalar Fault) : Type 0 where
  pub told : (d : Dialects.Dialect) → ((get_or s i 0 ≡ code "t" → ⊥) → (get_or s i 0 ≡ code "f" → ⊥) → ReadsScalar (grammar_of d) s i (FaultAt i)) → ReadsScalar (grammar_of d) s i r

module _ (D : Dialect) (s : List ℕ) where
  -- a comment goes on from place i to e
  pub record CommentRuns (i e : ℕ) : Type 0 where
    pub on : i ≤ e
    pub within : i ≤ length s → e ≤ length s
    pub runs : (lim : ℕ) (c : Control D) (k : Stack) → scan D lim (InComment c) k i (drop i s) ≡ scan D lim c k e (drop e s)

  -- after the key from a to e: a colon, and a value from n on
  pub record ColonRuns (a e n : ℕ) : Type 0 where
    pub past : e < n
    pub within : n ≤ length s
    pub runs : (lim o : ℕ) (fs : Fields) (cs : List ℕ) (k : Stack)
        → scan D lim (AtColon o fs a e cs) k e (drop e s) ≡ scan D lim AtValue (in_object o fs a e cs k) n (drop n s)

  abbrev pub ColonTold : ℕ → Result ℕ Fault → Type 0
  ColonTold e (Ok n) = (a : ℕ) → ColonRuns a e n
  ColonTold e (Err f) = (a o : ℕ) (fs : Fields) (cs : List ℕ) → StopsAt D s (AtColon o fs a e cs) e f.at

-- what the reader of the colon after a key that ends at e answers
pub record ReadsColon (D : Dialect) (s : List ℕ) (e : ℕ) (r : Result ℕ Fault) : Type 0 where
  pub told : ColonTold D s e r
