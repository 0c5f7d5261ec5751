-- Serves contracts: what is found in nodes, for every tree that they hold.
use Rattle.std.specs.Prelude as Std
use Rattle.std.specs.Prelude.{ℕ, suc, ◌+◌, ◌≤◌, ◌<◌, ◌≡◌, Bool, true, cond, ◌||◌, List, [], ◌∷◌, Some, None, eqb, length}
use Rattle.std.proofs.Math.Option.{Option, none, some}
use Rattle.grammar.specs.Notation.{same, all, apart}
use Rattle.grammar.specs.Tree.{Json, Fields}
use Rattle.grammar.specs.Tree.Scalar.{str}
use Rattle.grammar.specs.Tree.Json.{leaf}
use Rattle.grammar.specs.Keys.{keys_of}
use Rattle.grammar.specs.Serving.Machine.{Dialect}
use Rattle.grammar.specs.Serving.Machine.Message.{message}
use Rattle.strings.specs.declared.dialects.Dialect as Dialects
use Rattle.strings.specs.Strings.{grammar_of}
use Rattle.strings.specs.Decoding.{DecodedAs, decoded_size}
use Rattle.rules.specs.Values.{value_at, any_of}
use Rattle.text.specs.Nodes.{next, node_kind, Holds, HoldsFields}
use Rattle.text.specs.Fields.{KeyAt}
use Rattle.tokens.specs.NodeKinds.{plain_string_node, other_string_node, plain_key_node}

-- a node's kind is that of a string; that of a string or a key whose bytes are its code points
abbrev pub string_kind : ℕ → Bool
string_kind k = eqb k plain_string_node || eqb k other_string_node

abbrev pub plain_kind : ℕ → Bool
plain_kind k = eqb k plain_string_node || eqb k plain_key_node

-- the key or the string at node k means a name
pub record NodeMeans (D : Dialect) (s w : List ℕ) (k : ℕ) (name : List ℕ) (r : Bool) : Type 0 where
  pub key : (cs : List ℕ) → KeyAt D s w k cs → r ≡ same cs name
  pub string : (a e l : ℕ) (cs : List ℕ) → Holds D s w (leaf a e (str cs)) l k → r ≡ same cs name

-- node k of a message is a key or a string that means cs
pub data MeaningAt (m w : List ℕ) (k : ℕ) (cs : List ℕ) : Type 0 where
  a_key : KeyAt message m w k cs → MeaningAt m w k cs
  a_string : (a e l : ℕ) → Holds message m w (leaf a e (str cs)) l k → MeaningAt m w k cs

-- the bytes of a plain key or string are its code points
pub record InnerBytes (m w : List ℕ) (k : ℕ) (bytes : List ℕ) : Type 0 where
  pub told : (cs : List ℕ) → MeaningAt m w k cs → plain_kind (node_kind w k) ≡ true → bytes ≡ cs

-- the key or string, decoded into the bytes
pub record NodeDecodes (m w : List ℕ) (k : ℕ) (bytes : List ℕ) (r : Std.Option ℕ) : Type 0 where
  pub fits : decoded_size r ≤ length bytes
  pub told : (cs : List ℕ) → MeaningAt m w k cs → DecodedAs cs bytes r

-- where the value under a key stands: at a node, or nowhere
abbrev pub ValueFound : Dialect → List ℕ → List ℕ → ℕ → Option Json → Std.Option ℕ → Type 0
ValueFound D s w l none None = Unit {0}
ValueFound D s w l none (Some k) = ⊥
ValueFound D s w l (some j) None = ⊥
ValueFound D s w l (some j) (Some k) = (0 < k) × Holds D s w j l k

pub record FindsValue (D : Dialect) (s w : List ℕ) (k : ℕ) (name : List ℕ) (r : Std.Option ℕ) : Type 0 where
  pub told : (fs : Fields) (l : ℕ) → HoldsFields D s w fs l (suc k) (next w k) → ValueFound D s w l (value_at name fs) r

-- the object at node k has that many fields
pub record CountsFields (w : List ℕ) (k n : ℕ) : Type 0 where
  pub told : (d : Dialects.Dialect) (s : List ℕ) (fs : Fields) (l : ℕ) → HoldsFields (grammar_of d) s w fs l (suc k) (next w k) → n ≡ length (keys_of fs)

-- the object at node k, where it repeats no key, has no key but these
pub record NoOtherKeys (D : Dialect) (s w : List ℕ) (k : ℕ) (names : List (List ℕ)) (r : Bool) : Type 0 where
  pub told : (fs : Fields) (l : ℕ) → HoldsFields D s w fs l (suc k) (next w k) → apart same (keys_of fs) ≡ true → r ≡ all (any_of names) (keys_of fs)

-- the values under these names stand at these nodes, or nowhere
infixr 20 ◌and◌
pub data FindsEach (D : Dialect) (s w : List ℕ) (k : ℕ) : List (List ℕ) → List (Std.Option ℕ) → Type 0 where
  nothing : FindsEach D s w k [] []
  ◌and◌ : {name : List ℕ} {v : Std.Option ℕ} {names : List (List ℕ)} {vs : List (Std.Option ℕ)} → FindsValue D s w k name v → FindsEach D s w k names vs → FindsEach D s w k (name ∷ names) (v ∷ vs)

-- no other key, whatever names were looked for, no two of them the same
pub record NoOthers (w : List ℕ) (k : ℕ) (vs : List (Std.Option ℕ)) (r : Bool) : Type 0 where
  pub told : (d : Dialects.Dialect) (s : List ℕ) (names : List (List ℕ)) → apart same names ≡ true → FindsEach (grammar_of d) s w k names vs → NoOtherKeys (grammar_of d) s w k names r
