-- Serves proofs: nobody has to believe it. A machine that reads a text byte by byte and builds its tree; the proofs show that it agrees with the grammar.
pub mod Schema
pub mod Message
use Rattle.std.specs.Prelude.{ℕ, suc, Bool, cond, List, [], ◌∷◌, reverse, ltb, eqb}
use Prim.Native.Char.{code}
use Rattle.std.proofs.Math.Option.{Option, some, none}
use Rattle.grammar.specs.Tree.{Scalar, Scalar.str, Json, Json.leaf, Json.arr, Json.obj, Items, Items.no_items, Items.item, Fields, Fields.no_fields, Fields.field}
use Rattle.grammar.specs.Lexis.{Lexis}

-- items and fields are gathered in reverse: turn them round, before those that follow
abbrev mutual
  pub reverse_items : Items → Items → Items
  reverse_items no_items ks = ks
  reverse_items (item j js) ks = reverse_items js (item j ks)

abbrev mutual
  pub reverse_fields : Fields → Fields → Fields
  reverse_fields no_fields gs = gs
  reverse_fields (field s e cs j fs) gs = reverse_fields fs (field s e cs j gs)

-- a byte inside a character of a string: more bytes are wanted, the character is complete, or the byte does not fit
pub data CharStep (S : Type 0) : Type 0 where
  stay : S → CharStep S
  char : ℕ → CharStep S
  bad : CharStep S

-- a byte inside a word or a number: more may come, the byte is the last one, the byte before it was, or the byte does not fit
pub data TokenStep (S : Type 0) : Type 0 where
  on : S → TokenStep S
  last past : Scalar → TokenStep S
  off : TokenStep S

-- a word is read byte by byte: in state `word w ws v` the bytes w and ws are wanted, and the word means v
abbrev pub spell : {S : Type 0} → (ℕ → List ℕ → Scalar → S) → List ℕ → Scalar → TokenStep S
spell word [] v = last v
spell word (w ∷ ws) v = on (word w ws v)

-- a lexis with machines for its characters and for its words and numbers
pub record Dialect : Type 1 where
  pub lexis : Lexis
  pub CharState : Type 0
  pub char_start : ℕ → CharStep CharState
  pub char_step : CharState → ℕ → CharStep CharState
  pub TokenState : Type 0
  pub token_start : ℕ → Option TokenState
  pub token_step : TokenState → ℕ → TokenStep TokenState
  pub token_end : TokenState → Option Scalar
  -- bytes that continue no word and no number
  pub stops : ℕ → Bool

-- the open brackets around a value, innermost first, with the start of each and what was gathered in it
pub data Stack : Type 0 where
  bottom : Items → Stack
  in_array : ℕ → Items → Stack → Stack
  in_object : ℕ → Fields → ℕ → ℕ → List ℕ → Stack → Stack

abbrev pub depth : Stack → ℕ
depth (bottom js) = 0
depth (in_array a js k) = suc (depth k)
depth (in_object a fs s e cs k) = suc (depth k)

-- a string is a value, with its start, or a key, with the start and the fields of its object and its own start
pub data StringRole : Type 0 where
  as_value : ℕ → StringRole
  as_key : ℕ → Fields → ℕ → StringRole

-- the answer: the trees, the place of a byte that no level limit would allow (or the end), or the place of a bracket that is one too many
pub data Out : Type 0 where
  whole : Items → Out
  fault deep : ℕ → Out

module _ (D : Dialect) where
  -- what is read next; the numbers, items and fields are what was gathered of it
  pub data Control : Type 0 where
    AtObject AtValue : Control
    AtElement : ℕ → Control
    After : Json → Control
    AtFirstKey : ℕ → Control
    AtKey : ℕ → Fields → Control
    AtColon : ℕ → Fields → ℕ → ℕ → List ℕ → Control
    InString : StringRole → List ℕ → Control
    InChar : StringRole → List ℕ → D.CharState → Control
    InToken : ℕ → D.TokenState → Control
    InComment : Control → Control

  pub data Next : Type 0 where
    to : Control → Stack → Next
    stuck over : Next

  abbrev pub opens : ℕ → Control → Stack → Next
  opens lim c k = cond (ltb (depth k) lim) (to c k) over

  abbrev pub begin_token : ℕ → Option D.TokenState → Stack → Next
  begin_token p (some s) k = to (InToken p s) k
  begin_token p none k = stuck

  abbrev pub begin_value : ℕ → Stack → ℕ → ℕ → Next
  begin_value lim k p b =
      cond (D.lexis.quote b) (to (InString (as_value p) []) k)
      (cond (eqb b (code "[")) (opens lim (AtElement p) k)
      (cond (eqb b (code "{")) (opens lim (AtFirstKey p) k) (begin_token p (D.token_start b) k)))

  abbrev pub begin_key : ℕ → Fields → Stack → ℕ → ℕ → Next
  begin_key a fs k p b = cond (D.lexis.quote b) (to (InString (as_key a fs p) []) k) stuck

  -- pass over a blank, enter a comment, or do x
  abbrev pub skip : Control → Stack → ℕ → Next → Next
  skip c k b x = cond (D.lexis.blank b) (to c k) (cond (D.lexis.comment b) (to (InComment c) k) x)

  abbrev pub follow : ℕ → Json → Stack → ℕ → ℕ → Next
  follow lim v (bottom js) p b = cond D.lexis.several (cond (eqb b (code "{")) (opens lim (AtFirstKey p) (bottom (item v js))) stuck) stuck
  follow lim v (in_array a js k) p b =
      cond (eqb b (code ",")) (to AtValue (in_array a (item v js) k)) (cond (eqb b (code "]")) (to (After (arr a (suc p) (reverse_items js (item v no_items)))) k) stuck)
  follow lim v (in_object a fs s e cs k) p b =
      cond (eqb b (code ",")) (to (AtKey a (field s e cs v fs)) k) (cond (eqb b (code "}")) (to (After (obj a (suc p) (reverse_fields fs (field s e cs v no_fields)))) k) stuck)

  abbrev pub after_value : ℕ → Json → Stack → ℕ → ℕ → Next
  after_value lim v k p b = skip (After v) k b (follow lim v k p b)

  abbrev pub end_string : StringRole → ℕ → List ℕ → Control
  end_string (as_value a) e cs = After (leaf a e (str cs))
  end_string (as_key a fs o) e cs = AtColon a fs o e cs

  abbrev pub in_char : CharStep D.CharState → StringRole → List ℕ → Stack → Next
  in_char (stay s) d acc k = to (InChar d acc s) k
  in_char (char x) d acc k = to (InString d (x ∷ acc)) k
  in_char bad d acc k = stuck

  abbrev pub in_token : TokenStep D.TokenState → ℕ → ℕ → Stack → ℕ → ℕ → Next
  in_token (on s) lim a k p b = to (InToken a s) k
  in_token (last v) lim a k p b = to (After (leaf a (suc p) v)) k
  in_token (past v) lim a k p b = after_value lim (leaf a p v) k p b
  in_token off lim a k p b = stuck

  -- the byte b at place p
  abbrev pub step : ℕ → Control → Stack → ℕ → ℕ → Next
  step lim AtObject k p b = skip AtObject k b (cond (eqb b (code "{")) (opens lim (AtFirstKey p) k) stuck)
  step lim AtValue k p b = skip AtValue k b (begin_value lim k p b)
  step lim (AtElement a) k p b = skip (AtElement a) k b (cond (eqb b (code "]")) (to (After (arr a (suc p) no_items)) k) (begin_value lim (in_array a no_items k) p b))
  step lim (After v) k p b = after_value lim v k p b
  step lim (AtFirstKey a) k p b = skip (AtFirstKey a) k b (cond (eqb b (code "}")) (to (After (obj a (suc p) no_fields)) k) (begin_key a no_fields k p b))
  step lim (AtKey a fs) k p b = skip (AtKey a fs) k b (begin_key a fs k p b)
  step lim (AtColon a fs s e cs) k p b = skip (AtColon a fs s e cs) k b (cond (eqb b (code ":")) (to AtValue (in_object a fs s e cs k)) stuck)
  step lim (InString d acc) k p b = cond (D.lexis.quote b) (to (end_string d (suc p) (reverse acc)) k) (in_char (D.char_start b) d acc k)
  step lim (InChar d acc s) k p b = in_char (D.char_step s b) d acc k
  step lim (InToken a s) k p b = in_token (D.token_step s b) lim a k p b
  step lim (InComment c) k p b = cond (eqb b (code "\n")) (to c k) (to (InComment c) k)

  abbrev pub end_value : Json → Stack → ℕ → Out
  end_value v (bottom js) p = whole (reverse_items js (item v no_items))
  end_value v (in_array a js k) p = fault p
  end_value v (in_object a fs s e cs k) p = fault p

  -- inside brackets this is never met; what it says there lets every control be completed
  abbrev pub end_objects : Stack → ℕ → Out
  end_objects (bottom js) p = whole (reverse_items js no_items)
  end_objects (in_array a js k) p = whole no_items
  end_objects (in_object a fs s e cs k) p = whole no_items

  abbrev pub end_token : Option Scalar → ℕ → Stack → ℕ → Out
  end_token (some v) a k p = end_value (leaf a p v) k p
  end_token none a k p = fault p

  -- the end of the text at place p
  abbrev pub finish : Control → Stack → ℕ → Out
  finish AtObject k p = end_objects k p
  finish AtValue k p = fault p
  finish (AtElement a) k p = fault p
  finish (After v) k p = end_value v k p
  finish (AtFirstKey a) k p = fault p
  finish (AtKey a fs) k p = fault p
  finish (AtColon a fs s e cs) k p = fault p
  finish (InString d acc) k p = fault p
  finish (InChar d acc s) k p = fault p
  finish (InToken a s) k p = end_token (D.token_end s) a k p
  finish (InComment c) k p = finish c k p

  -- the bytes from place p on
  unfoldable pub scan : ℕ → Control → Stack → ℕ → List ℕ → Out
  scan lim c k p [] = finish c k p
  scan lim c k p (b ∷ l) = elim (step lim c k p b) [ to c' k' ↦ scan lim c' k' (suc p) l | stuck ↦ fault p | over ↦ deep p ]

  abbrev pub start : Control
  start = cond D.lexis.several AtObject AtValue

  -- a whole text, with at most lim levels
  unfoldable pub read : ℕ → List ℕ → Out
  unfolding scan
  read lim l = scan lim start (bottom no_items) 0 l
