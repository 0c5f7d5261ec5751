-- Reference, Envelope: the envelope, the command that it names, whether it may use it, and what it then asks to have read.
use Rattle.std.specs.Prelude.{ℕ, ◌<◌, Bool, true, false, cond, List, [], ◌∷◌, ◌≡◌, eqb}
use Rattle.std.proofs.Math.Option.{Option, none, some}
use Rattle.grammar.specs.Notation.{text, all}
use Rattle.grammar.specs.Tree.{Json}
use Rattle.grammar.specs.Tree.Json.{obj}
use Rattle.grammar.specs.Tree.Fields.{no_fields}
use Rattle.grammar.specs.Keys.{keys_of}
use Rattle.rules.specs.Kinds.{command_kind}
use Rattle.rules.specs.Values.{◌>>=◌, as_fields, as_string, value_at, any_of}
use Rattle.rules.specs.Rows.{row_count, kind, data_struct, allow_oob, name_of, link_ref}

-- what an envelope says: the string under execute or exec-oob, which of the two, and the arguments
pub record Envelope : Type 0 where
  pub name : List ℕ
  pub out_of_band : Bool
  pub arguments : Json

-- absent arguments are read as {} at places 0, 0
abbrev pub as_arguments : Option Json → Option Json
as_arguments none = some (obj 0 0 no_fields)
as_arguments (some j) = do
  fs ← as_fields j
  some j

-- exactly one of execute and exec-oob, a string
abbrev pub as_call : Option Json → Option Json → Option Json → Option Envelope
as_call none none args = none
as_call (some j) none args = do
  name ← as_string j
  a ← as_arguments args
  some (record { name = name; out_of_band = false; arguments = a })
as_call none (some j) args = do
  name ← as_string j
  a ← as_arguments args
  some (record { name = name; out_of_band = true; arguments = a })
as_call (some j) (some k) args = none

-- an object with no key but execute, exec-oob, arguments and id
unfoldable pub envelope : Json → Option Envelope
envelope j = do
  fs ← as_fields j
  cond (all (any_of (text "execute" ∷ text "exec-oob" ∷ text "arguments" ∷ text "id" ∷ [])) (keys_of fs))
      (as_call (value_at (text "execute") fs) (value_at (text "exec-oob") fs) (value_at (text "arguments") fs))
      none

-- row c is the command of that name
pub record Names (S T : List ℕ) (name : List ℕ) (c : ℕ) : Type 0 where
  pub row : c < row_count T
  pub command : kind T c ≡ command_kind
  pub name_is : name_of S T c ≡ name

-- an out-of-band call wants allow-oob
abbrev pub may_use : List ℕ → ℕ → Bool → Bool
may_use T c true = eqb (allow_oob T c) 1
may_use T c false = true

-- What a message asks to have read: a value, the type reference and array mark that it is read at, and the second number of an acceptance.
pub record Asked : Type 0 where
  pub value : Json
  pub ref : ℕ
  pub array : ℕ
  pub second : ℕ

-- the arguments of the command at row c, at its data; reference 0 if it has none
abbrev pub arguments_of : List ℕ → Envelope → ℕ → Asked
arguments_of T v c = record { value = v.arguments; ref = link_ref (data_struct T c); array = 0; second = c }

-- the message that is the value j has a proper envelope, names the command at row c and may use it
pub data Asks (S T : List ℕ) (j : Json) (a : Asked) : Type 0 where
  command : {v : Envelope} {c : ℕ} → envelope j ≡ some v → Names S T v.name c → may_use T c v.out_of_band ≡ true → a ≡ arguments_of T v c → Asks S T j a
