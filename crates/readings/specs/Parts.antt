-- Serves contracts: by which type a value is read and what is read inside it there, for every value that the nodes hold.
use Rattle.std.specs.Prelude.{ℕ, ◌≡◌, Bool, true, false, cond, ◌&&◌, List, [], ◌∷◌, ◌++◌, eqb, get_or}
use Rattle.std.proofs.Math.Option.{Option, none, some}
use Rattle.grammar.specs.Tree.{Scalar, Json, Items, Fields, Kind, kind_of}
use Rattle.grammar.specs.Tree.Scalar.{num}
use Rattle.grammar.specs.Tree.Json.{leaf, arr, obj}
use Rattle.grammar.specs.Tree.Kind.{object, array, string, number, boolean, null_kind}
use Rattle.grammar.specs.Keys.{keys_once}
use Rattle.grammar.specs.Serving.Machine.Message.{message}
use Rattle.rules.specs.Types.{is_built_in, ranges, number_fits, built_in_takes}
use Rattle.rules.specs.Readings.{typed}
use Rattle.rules.specs.Serving.ReadingOf as Reading
use Rattle.rules.specs.Serving.ReadingOf.{under, of_kind, from_alternatives, enum_has, type_choice, mandatory_there, plain_reading, items_reading, fields_reading}
use Rattle.text.specs.Nodes.{Holds}
use Rattle.children.specs.Index.{IndexedTable}
use Rattle.members.specs.Members.{FieldsAt, TwoStructs}
use Rattle.readings.specs.declared.types.Choice.{Choice}
use Rattle.readings.specs.declared.types.Choice.TheVariants.{Itself, Alternative, NoAlternative}
use Rattle.readings.specs.declared.contents.Content.{Content}
use Rattle.readings.specs.declared.contents.Content.TheVariants.{Alone, Elements, Members, Misfit}

-- the JSON kind of a node's kind, by number
abbrev pub node_kinds : List (Option Kind)
node_kinds =
    none ∷ some null_kind ∷ some boolean ∷ some boolean ∷ some number ∷ some number ∷ some string ∷ some string
    ∷ some array ∷ some object ∷ []

abbrev pub kind_of_node : ℕ → Option Kind
kind_of_node k = get_or node_kinds k none

-- built-ins
pub record NumberFits (m w : List ℕ) (k b : ℕ) (r : Bool) : Type 0 where
  pub told : (a e l : ℕ) (i : Bool) (token : List ℕ) → Holds message m w (leaf a e (num i token)) l k → r ≡ number_fits (get_or (none ∷ ranges) b none) i token

pub record BuiltInTakes (m w : List ℕ) (k b : ℕ) (r : Bool) : Type 0 where
  pub told : (j : Json) (l : ℕ) → Holds message m w j l k → r ≡ built_in_takes b j

-- alternates
abbrev pub choice_as : Choice → Reading.TypeChoice
choice_as Itself = Reading.TypeChoice.direct
choice_as (Alternative u) = Reading.TypeChoice.alternative u
choice_as NoAlternative = Reading.TypeChoice.missing

pub record TypeFor (T w : List ℕ) (k t f : ℕ) (x : Choice) : Type 0 where
  pub told : (S m : List ℕ) (j : Json) (l : ℕ) → Holds message m w j l k → choice_as x ≡ type_choice S T (kind_of j) t f

-- enums
pub record EnumHas (S T m w ix : List ℕ) (k t : ℕ) (b : Bool) : Type 0 where
  pub told : (a e l : ℕ) (v : Scalar) → IndexedTable S T ix → Holds message m w (leaf a e v) l k → b ≡ enum_has S T t v

-- what is read inside a value, whatever is done with keys that no member has
pub record AsElements (S T : List ℕ) (j : Json) (t f : ℕ) : Type 0 where
  pub start : ℕ
  pub end : ℕ
  pub items : Items
  pub is_array : j ≡ arr start end items
  pub reading : (passes : Bool) → plain_reading passes S T j t f ≡ under (typed j t f) (items_reading passes S T items t)

pub record AsMembers (S T : List ℕ) (j : Json) (t f b c : ℕ) : Type 0 where
  pub start : ℕ
  pub end : ℕ
  pub fields : Fields
  pub is_object : j ≡ obj start end fields
  pub structs : TwoStructs S T t b c fields
  pub reading : (passes : Bool) → plain_reading passes S T j t f
      ≡ under (typed j t f) (cond (mandatory_there S T (structs.base ++ structs.branch) fields) (fields_reading passes S T fields (structs.base ++ structs.branch)) none)

abbrev pub ContentTold : (S T : List ℕ) → Json → ℕ → ℕ → Content → Type 0
ContentTold S T j t f Alone = (passes : Bool) → plain_reading passes S T j t f ≡ some (typed j t f ∷ [])
ContentTold S T j t f Elements = AsElements S T j t f
ContentTold S T j t f (Members b c) = AsMembers S T j t f b c
ContentTold S T j t f Misfit = (passes : Bool) → plain_reading passes S T j t f ≡ none

-- whether a value is read at a built-in; elsewhere it is read by its shape
pub record AtBuiltIn (t f : ℕ) (b : Bool) : Type 0 where
  pub told : b ≡ eqb f 0 && is_built_in t

abbrev pub Elsewhere : ℕ → ℕ → Type 0
Elsewhere t f = eqb f 0 && is_built_in t ≡ false

pub record ScalarContent (S T m w ix : List ℕ) (k t f : ℕ) (x : Content) : Type 0 where
  pub told : Elsewhere t f → (a e l : ℕ) (v : Scalar) → IndexedTable S T ix → Holds message m w (leaf a e v) l k → ContentTold S T (leaf a e v) t f x

pub record ArrayContent (f : ℕ) (x : Content) : Type 0 where
  pub told : (t : ℕ) → Elsewhere t f → (S T : List ℕ) (a e : ℕ) (js : Items) → ContentTold S T (arr a e js) t f x

pub record ObjectContent (S T m w ix : List ℕ) (k t f : ℕ) (x : Content) : Type 0 where
  pub told : Elsewhere t f → (a e : ℕ) (fs : Fields) → IndexedTable S T ix → FieldsAt m w k fs → ContentTold S T (obj a e fs) t f x

pub record ContentAt (S T m w ix : List ℕ) (k t f : ℕ) (x : Content) : Type 0 where
  pub told : (j : Json) (l : ℕ) → IndexedTable S T ix → Holds message m w j l k → keys_once j ≡ true → ContentTold S T j t f x
