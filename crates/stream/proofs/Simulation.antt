-- Inside a message the modes follow the grammar's machine: a step and then forgetting the trees is forgetting and then a turn.
-- One walk over the machine's step. What is known besides is that the outermost bracket stands at place 0 with nothing before it, so that closing it ends a whole message.
use Prim.Native.Nat.{ℕ, suc}
use Prim.Native.Char.{code}
use mathlib.Core.Path.{◌≡◌, refl, ap}
use mathlib.Core.Bool.{Bool, true, false, cond}
use mathlib.Core.List.{List, [], ◌∷◌, reverse}
use mathlib.Core.Option.{Option, some, none}
use lib.ListN.{length}
use lib.Dec.{ltb, eqb}
use Rattle.grammar.specs.Limits.{message_levels}
use Rattle.grammar.specs.Notation.{text}
use Rattle.grammar.specs.Tree.{Scalar, Scalar.num, Scalar.str, Scalar.null, Scalar.bool, Json, Json.leaf, Json.arr, Json.obj, Items, Items.no_items, Items.item, Fields, Fields.no_fields, Fields.field}
use Rattle.grammar.specs.Lexis.{blank}
use Rattle.grammar.specs.Serving.Machine.{CharStep, TokenStep.off, spell, Stack, Stack.bottom, Stack.in_array, Stack.in_object, StringRole, StringRole.as_value, StringRole.as_key}
use Rattle.grammar.specs.Serving.Machine.{Next, Next.to, Next.stuck, Next.over, Control, depth, opens, begin_token, begin_value, begin_key, follow, after_value, end_string, in_char, in_token, step, reverse_items, reverse_fields}
use Rattle.grammar.specs.Serving.Machine.Control.{AtObject, AtValue, AtElement, After, AtFirstKey, AtKey, AtColon, InString, InChar, InToken, InComment}
use Rattle.grammar.specs.Serving.Machine.Message.{message, CharState, TokenState, TokenState.word, TokenState.number, NumberState, NumberState.begin, number_step, number_end, token_start, token_step, number_start, number_on}
use Rattle.stream.specs.Serving.Modes as modes
use Rattle.stream.specs.Serving.Modes.{Point, Mode, Turn, CharTurn, opened_mode, open_turn, close_turn, token_turn, value_turn, key_turn, follow_turn, at_turn, end_point, in_char_turn, number_turn, spell_turn, turn}
use Rattle.stream.proofs.Characters.{forget_char, Chars, Chars.stays, Chars.completes, Chars.fails, char-begins, char_turns}

-- what is left of the machine's control and stack. A message has neither AtObject nor InComment; what is said of them is not used
abbrev forget_token : TokenState → Mode
forget_token (word w ws v) = Mode.in_word w ws
forget_token (number s acc) = Mode.in_number s

abbrev is_key : StringRole → Bool
is_key (as_value a) = false
is_key (as_key a fs o) = true

abbrev pub forget : Control message → Mode
forget AtObject = Mode.at Point.value
forget AtValue = Mode.at Point.value
forget (AtElement a) = Mode.at Point.element
forget (After v) = Mode.at Point.after
forget (AtFirstKey a) = Mode.at Point.first_key
forget (AtKey a fs) = Mode.at Point.key
forget (AtColon a fs s e cs) = Mode.at Point.colon
forget (InString d acc) = Mode.in_string (is_key d)
forget (InChar d acc s) = Mode.inside_char (is_key d) (forget_char s)
forget (InToken a s) = forget_token s
forget (InComment c) = Mode.at Point.value

abbrev frames : Stack → List Bool
frames (bottom js) = []
frames (in_array a js k) = false ∷ frames k
frames (in_object a fs s e cs k) = true ∷ frames k

abbrev string_frames : StringRole → List Bool → List Bool
string_frames (as_value a) fs = fs
string_frames (as_key a gs o) fs = true ∷ fs

-- the machine puts a bracket on its stack when a value inside it starts; here it is there from its opening on
abbrev pub held : Control message → Stack → List Bool
held AtObject k = frames k
held AtValue k = frames k
held (AtElement a) k = false ∷ frames k
held (After v) k = frames k
held (AtFirstKey a) k = true ∷ frames k
held (AtKey a fs) k = true ∷ frames k
held (AtColon a fs s e cs) k = true ∷ frames k
held (InString d acc) k = string_frames d (frames k)
held (InChar d acc s) k = string_frames d (frames k)
held (InToken a s) k = frames k
held (InComment c) k = frames k

-- what stands below a bracket that opens at a: the bottom, if a is 0, or another bracket
mutual
  pub data Based : ℕ → Stack → Type 0 where
    outermost : Based 0 (bottom no_items)
    inner : {a : ℕ} {k : Stack} → Framed k → Based a k

  pub data Framed : Stack → Type 0 where
    under_array : {a : ℕ} {js : Items} {k : Stack} → Based a k → Framed (in_array a js k)
    under_object : {a s e : ℕ} {fs : Fields} {cs : List ℕ} {k : Stack} → Based a k → Framed (in_object a fs s e cs k)

abbrev OpenString : StringRole → Stack → Type 0
OpenString (as_value a) k = Framed k
OpenString (as_key a fs o) k = Based a k

-- a control inside a message whose outermost bracket is open
abbrev pub Open : Control message → Stack → Type 0
Open AtObject k = ⊥
Open AtValue k = Framed k
Open (AtElement a) k = Based a k
Open (After v) k = Framed k
Open (AtFirstKey a) k = Based a k
Open (AtKey a fs) k = Based a k
Open (AtColon a fs s e cs) k = Based a k
Open (InString d acc) k = OpenString d k
Open (InChar d acc s) k = OpenString d k
Open (InToken a s) k = Framed k
Open (InComment c) k = ⊥

-- an object or array from place 0 to e
pub data Whole (e : ℕ) : Json → Type 0 where
  array : {js : Items} → Whole e (arr 0 e js)
  object : {fs : Fields} → Whole e (obj 0 e fs)

-- a step of the machine at place p, and the turn that is left of it
pub data Turns (p : ℕ) : Next message → Turn → Type 0 where
  goes : {c : Control message} {k : Stack} {m : Mode} {fs : List Bool} → forget c ≡ m → held c k ≡ fs → Open c k → Turns p (to c k) (Turn.to m fs)
  ends : {v : Json} → Whole (suc p) v → Turns p (to (After v) (bottom no_items)) Turn.ended
  sticks : Turns p stuck Turn.stuck
  full : Turns p over Turn.over

depth-frames : (k : Stack) → depth k ≡ length (frames k)
depth-frames (bottom js) = refl
depth-frames (in_array a js k) = ap suc (depth-frames k)
depth-frames (in_object a fs s e cs k) = ap suc (depth-frames k)

module _ {p : ℕ} where
  goes_to : (c : Control message) (k : Stack) → Open c k → Turns p (to c k) (Turn.to (forget c) (held c k))
  goes_to c k i = goes refl refl i

  tests : (t : Bool) {x y : Next message} {x' y' : Turn} → Turns p x x' → Turns p y y' → Turns p (cond t x y) (cond t x' y')
  tests true e f = e
  tests false e f = f

  -- a bracket closes, and what it encloses, a value by its start, is one of the next bracket's values or the whole message
  closes : {a : ℕ} {k : Stack} (v : ℕ → Json) → Whole (suc p) (v 0) → (f : Bool) → Based a k → Turns p (to (After (v a)) k) (close_turn (f ∷ frames k))
  closes v w f outermost = ends w
  closes v w f (inner (under_array i)) = goes refl refl (under_array i)
  closes v w f (inner (under_object i)) = goes refl refl (under_object i)

  opens_turns : (c : Control message) (k : Stack) (f : Bool) → forget c ≡ opened_mode f → held c k ≡ f ∷ frames k → Open c k → Turns p (opens message message_levels c k) (open_turn f (frames k))
  opens_turns c k f e g i = rw (depth-frames k) (tests (ltb (length (frames k)) message_levels) (goes e g i) full)

  token_turns : (b : ℕ) (k : Stack) → Framed k → Turns p (begin_token message p (token_start b) k) (token_turn (number_step begin b) b (frames k))
  unfolding token_start
  token_turns b k i = go (number_step begin b)
    where
      words : (x y z : Bool)
          → Turns p
          (begin_token message p
          (cond x (some (word (code "u") (text "ll") null)) (cond y (some (word (code "r") (text "ue") (bool true))) (cond z (some (word (code "a") (text "lse") (bool false))) none))) k)
          (cond x (Turn.to (Mode.in_word (code "u") (text "ll")) (frames k))
          (cond y (Turn.to (Mode.in_word (code "r") (text "ue")) (frames k)) (cond z (Turn.to (Mode.in_word (code "a") (text "lse")) (frames k)) Turn.stuck)))
      words true y z = goes refl refl i
      words false true z = goes refl refl i
      words false false true = goes refl refl i
      words false false false = sticks

      go : (y : Option NumberState) → Turns p (begin_token message p (number_start y b) k) (token_turn y b (frames k))
      go (some s) = goes_to (InToken p (number s (b ∷ []))) k i
      go none = words (eqb b (code "n")) (eqb b (code "t")) (eqb b (code "f"))

  value_turns : (k : Stack) (b : ℕ) → Framed k → Turns p (begin_value message message_levels k p b) (value_turn (frames k) b)
  value_turns k b i =
      tests (eqb b (code "\"")) (goes_to (InString (as_value p) []) k i)
      (tests (eqb b (code "[")) (opens_turns (AtElement p) k false refl refl (inner i))
      (tests (eqb b (code "{")) (opens_turns (AtFirstKey p) k true refl refl (inner i)) (token_turns b k i)))

  key_turns : (a : ℕ) (fs : Fields) (k : Stack) (b : ℕ) → Based a k → Turns p (begin_key message a fs k p b) (key_turn (true ∷ frames k) b)
  key_turns a fs k b i = tests (eqb b (code "\"")) (goes_to (InString (as_key a fs p) []) k i) sticks

  follow_turns : (v : Json) (k : Stack) (b : ℕ) → Framed k → Turns p (follow message message_levels v k p b) (follow_turn (frames k) b)
  follow_turns v (bottom _) b i = elim i [ ]
  follow_turns v (in_array a js k) b (under_array i) =
      tests (eqb b (code ",")) (goes_to AtValue (in_array a (item v js) k) (under_array i)) (tests (eqb b (code "]")) (closes (λ a. arr a (suc p) (reverse_items js (item v no_items))) array false i) sticks)
  follow_turns v (in_object a fs s e cs k) b (under_object i) =
      tests (eqb b (code ",")) (goes_to (AtKey a (field s e cs v fs)) k i) (tests (eqb b (code "}")) (closes (λ a. obj a (suc p) (reverse_fields fs (field s e cs v no_fields))) object true i) sticks)

  after_turns : (v : Json) (k : Stack) (b : ℕ) → Framed k → Turns p (after_value message message_levels v k p b) (at_turn Point.after (frames k) b)
  after_turns v k b i = tests (blank b) (goes_to (After v) k i) (follow_turns v k b i)

  string_turns : (d : StringRole) (k : Stack) (e : ℕ) (cs : List ℕ) → OpenString d k → Turns p (to (end_string message d e cs) k) (Turn.to (Mode.at (end_point (is_key d))) (string_frames d (frames k)))
  string_turns (as_value a) k e cs i = goes_to (After (leaf a e (str cs))) k i
  string_turns (as_key a fs o) k e cs i = goes_to (AtColon a fs o e cs) k i

  in_char_turns : {x : CharStep CharState} {y : CharTurn} (d : StringRole) (acc : List ℕ) (k : Stack) → OpenString d k → Chars x y
      → Turns p (in_char message x d acc k) (in_char_turn y (is_key d) (string_frames d (frames k)))
  in_char_turns d acc k i (stays e) = goes (ap (λ (m : modes.CharMode). Mode.inside_char (is_key d) m) e) refl i
  in_char_turns d acc k i (completes {x = x}) = goes_to (InString d (x ∷ acc)) k i
  in_char_turns d acc k i fails = sticks

  number_turns : (s : Option NumberState) (y : Option Bool) (acc : List ℕ) (a : ℕ) (k : Stack) (b : ℕ) → Framed k
      → Turns p (in_token message (number_on s y acc b) message_levels a k p b) (number_turn s y (frames k) b)
  number_turns (some s) y acc a k b i = goes_to (InToken a (number s (b ∷ acc))) k i
  number_turns none (some j) acc a k b i = after_turns (leaf a p (num j (reverse acc))) k b i
  number_turns none none acc a k b i = sticks

  spell_turns : (ws : List ℕ) (v : Scalar) (a : ℕ) (k : Stack) (b : ℕ) → Framed k → Turns p (in_token message (spell word ws v) message_levels a k p b) (spell_turn ws (frames k))
  spell_turns [] v a k b i = goes_to (After (leaf a (suc p) v)) k i
  spell_turns (w ∷ ws) v a k b i = goes_to (InToken a (word w ws v)) k i

  word_turns : (t : Bool) (ws : List ℕ) (v : Scalar) (a : ℕ) (k : Stack) (b : ℕ) → Framed k
      → Turns p (in_token message (cond t (spell word ws v) off) message_levels a k p b) (cond t (spell_turn ws (frames k)) Turn.stuck)
  word_turns true ws v a k b i = spell_turns ws v a k b i
  word_turns false ws v a k b i = sticks

  pub step_turns : (c : Control message) (k : Stack) (b : ℕ) → Open c k → Turns p (step message message_levels c k p b) (turn (forget c) (held c k) b)
  unfolding turn token_step
  step_turns AtObject k b i = absurd i
  step_turns AtValue k b i = tests (blank b) (goes_to AtValue k i) (value_turns k b i)
  step_turns (AtElement a) k b i =
      tests (blank b) (goes_to (AtElement a) k i) (tests (eqb b (code "]")) (closes (λ a. arr a (suc p) no_items) array false i) (value_turns (in_array a no_items k) b (under_array i)))
  step_turns (After v) k b i = after_turns v k b i
  step_turns (AtFirstKey a) k b i = tests (blank b) (goes_to (AtFirstKey a) k i) (tests (eqb b (code "}")) (closes (λ a. obj a (suc p) no_fields) object true i) (key_turns a no_fields k b i))
  step_turns (AtKey a fs) k b i = tests (blank b) (goes_to (AtKey a fs) k i) (key_turns a fs k b i)
  step_turns (AtColon a fs s e cs) k b i = tests (blank b) (goes_to (AtColon a fs s e cs) k i) (tests (eqb b (code ":")) (goes_to AtValue (in_object a fs s e cs k) (under_object i)) sticks)
  step_turns (InString d acc) k b i = tests (eqb b (code "\"")) (string_turns d k (suc p) (reverse acc) i) (in_char_turns d acc k i (char-begins b))
  step_turns (InChar d acc s) k b i = in_char_turns d acc k i (char_turns s b)
  step_turns (InToken a (number s acc)) k b i = number_turns (number_step s b) (number_end s) acc a k b i
  step_turns (InToken a (word w ws v)) k b i = word_turns (eqb b w) ws v a k b i
  step_turns (InComment c) k b i = absurd i
