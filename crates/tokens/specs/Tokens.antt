-- Serves contracts: what a reader of tokens found, in terms of the byte machine. Nobody has to believe it: the text reader's contract cites the grammar.
use Rattle.std.specs.Prelude.{ℕ, ◌+◌, ◌-◌, ◌≤◌, ◌<◌, ◌≡◌, Bool, false, cond, Result, Ok, Err, List, length, get_or, take, drop}
use Prim.Native.Char.{code}
use Rattle.grammar.specs.Tree.{Scalar, Json, Fields}
use Rattle.grammar.specs.Tree.Scalar.{null, bool, num, str}
use Rattle.grammar.specs.Tree.Json.{leaf}
use Rattle.grammar.specs.Serving.Machine.{Dialect, Stack, Control, scan}
use Rattle.grammar.specs.Serving.Machine.Stack.{in_object}
use Rattle.grammar.specs.Serving.Machine.Control.{AtObject, AtValue, AtElement, After, AtFirstKey, AtKey, AtColon}
use Rattle.strings.specs.Strings.{plain_string, StopsAt, Means}
use Rattle.tokens.specs.NodeKinds.{null_node, false_node, true_node, integer_node, other_number_node, plain_string_node, other_string_node, plain_key_node, other_key_node}
use Rattle.strings.specs.declared.chars.Fault.{Fault}
use Rattle.tokens.specs.declared.scalars.Scalar.{Scalar as ScalarEnd}
use Rattle.tokens.specs.declared.separators.Key.{Key}
use Rattle.tokens.specs.declared.separators.Following.{Following}
use Rattle.tokens.specs.declared.separators.Following.TheVariants.{Comma, Close}

-- the kinds of the nodes of strings and keys, plain or not, and of numbers, integers or not
abbrev pub string_node : Bool → ℕ
string_node plain = cond plain plain_string_node other_string_node

abbrev pub key_kind : Bool → ℕ
key_kind plain = cond plain plain_key_node other_key_node

abbrev pub number_node : Bool → ℕ
number_node integer = cond integer integer_node other_number_node

-- the kind of the node of a value without brackets, and of a key
abbrev pub scalar_node : List ℕ → ℕ → ℕ → Scalar → ℕ
scalar_node s a e null = null_node
scalar_node s a e (bool b) = cond b true_node false_node
scalar_node s a e (num i token) = number_node i
scalar_node s a e (str cs) = string_node (plain_string s a e)

abbrev pub key_node : List ℕ → ℕ → ℕ → ℕ
key_node s a e = key_kind (plain_string s a e)

module _ (D : Dialect) (s : List ℕ) where
  -- the bytes from place a to e are what v was read from: a number is its token, a string means its code points
  abbrev pub ScalarAt : ℕ → ℕ → Scalar → Type 0
  ScalarAt a e null = Unit {0}
  ScalarAt a e (bool b) = Unit {0}
  ScalarAt a e (num i token) = token ≡ take (e - a) (drop a s)
  ScalarAt a e (str cs) = Means D s a e cs

  -- controls at which blanks and comments are passed over
  pub data Skips : Control D → Type 0 where
    at_object : Skips AtObject
    at_value : Skips AtValue
    at_element : {a : ℕ} → Skips (AtElement a)
    after_value : {j : Json} → Skips (After j)
    at_first_key : {a : ℕ} → Skips (AtFirstKey a)
    at_key : {a : ℕ} {fs : Fields} → Skips (AtKey a fs)
    at_colon : {a o e : ℕ} {fs : Fields} {cs : List ℕ} → Skips (AtColon a fs o e cs)

  -- at place e stands neither a blank nor a comment
  abbrev pub Solid : ℕ → Type 0
  Solid e = e < length s → (D.lexis.blank (get_or s e 0) ≡ false) × (D.lexis.comment (get_or s e 0) ≡ false)

  -- blanks and comments from place i to e, and none after them
  pub record Skipped (i e : ℕ) : Type 0 where
    pub on : i ≤ e
    pub within : i ≤ length s → e ≤ length s
    pub solid : Solid e
    pub runs : (lim : ℕ) (c : Control D) (k : Stack) → Skips c → scan D lim c k i (drop i s) ≡ scan D lim c k e (drop e s)

  -- a value without brackets, from place i to e, is v
  pub record ScalarRuns (i e : ℕ) (v : Scalar) : Type 0 where
    pub on : i < e
    pub within : e ≤ length s
    pub spelled : ScalarAt i e v
    pub runs : (lim : ℕ) (k : Stack) → scan D lim AtValue k i (drop i s) ≡ scan D lim (After (leaf i e v)) k e (drop e s)

  abbrev pub ScalarTold : ℕ → Result ScalarEnd Fault → Type 0
  ScalarTold i (Ok r) = (v : Scalar) × ScalarRuns i r.end v × (r.kind ≡ scalar_node s i r.end v)
  ScalarTold i (Err f) = StopsAt D s AtValue i f.at

  -- from place i on: a key from a to e that means cs, a colon, and a value from n on
  pub record KeyRuns (i a e n : ℕ) (cs : List ℕ) : Type 0 where
    pub on : i ≤ a
    pub means : Means D s a e cs
    pub past : e < n
    pub within : n ≤ length s
    pub runs : (lim o : ℕ) (fs : Fields) (k : Stack) → scan D lim (AtKey o fs) k i (drop i s) ≡ scan D lim AtValue (in_object o fs a e cs k) n (drop n s)

  abbrev pub KeyTold : ℕ → Result Key Fault → Type 0
  KeyTold i (Ok k) = (cs : List ℕ) × KeyRuns i k.start k.end k.past cs × (k.kind ≡ key_node s k.start k.end)
  KeyTold i (Err f) = (o : ℕ) (fs : Fields) → StopsAt D s (AtKey o fs) i f.at

  -- after blanks and comments from place i on: a comma, the closing bracket, or neither, and then the place past it or of what stands there
  abbrev pub FollowingTold : ℕ → ℕ → Result Following Fault → Type 0
  FollowingTold i close (Ok (Comma n)) = (e : ℕ) × Skipped i e × (e < length s) × (get_or s e 0 ≡ code ",") × (n ≡ e + 1)
  FollowingTold i close (Ok (Close n)) = (e : ℕ) × Skipped i e × (e < length s) × (get_or s e 0 ≡ close) × (n ≡ e + 1)
  FollowingTold i close (Err f) = Skipped i f.at × (f.at < length s → (get_or s f.at 0 ≡ code "," → ⊥) × (get_or s f.at 0 ≡ close → ⊥))

-- what each reader answers
pub record ReadsScalar (D : Dialect) (s : List ℕ) (i : ℕ) (r : Result ScalarEnd Fault) : Type 0 where
  pub told : ScalarTold D s i r

pub record ReadsKey (D : Dialect) (s : List ℕ) (i : ℕ) (r : Result Key Fault) : Type 0 where
  pub told : KeyTold D s i r

pub record Follows (D : Dialect) (s : List ℕ) (i close : ℕ) (r : Result Following Fault) : Type 0 where
  pub told : FollowingTold D s i close r

-- where a value without brackets may be asked for: at the end, or at a byte that is no blank, no comment and no opening bracket
pub record Unbracketed (D : Dialect) (s : List ℕ) (i : ℕ) : Type 0 where
  pub solid : Solid D s i
  pub no_array : i < length s → get_or s i 0 ≡ code "[" → ⊥
  pub no_object : i < length s → get_or s i 0 ≡ code "{" → ⊥
