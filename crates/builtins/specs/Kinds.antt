-- Serves contracts: JSON kinds of the code as the rules have them, and the kind of a built-in.
use Rattle.std.specs.Prelude as Code
use Rattle.std.specs.Prelude.{ℕ, Bool, false, ◌∷◌, get_or}
use Rattle.std.proofs.Math.Option.{Option, none, some}
use Rattle.grammar.specs.Tree.{Kind}
use Rattle.grammar.specs.Tree.Kind.{object, array, string, number, boolean, null_kind}
use Rattle.rules.specs.Types.{built_in_kinds, takes}
use Rattle.builtins.specs.declared.json.JsonKind.{JsonKind}
use Rattle.builtins.specs.declared.json.JsonKind.TheVariants as Variants

abbrev pub kind_in : JsonKind → Kind
kind_in Variants.Object = object
kind_in Variants.Array = array
kind_in Variants.String = string
kind_in Variants.Number = number
kind_in Variants.Boolean = boolean
kind_in Variants.Null = null_kind

abbrev pub kind_as : Code.Option JsonKind → Option Kind
kind_as Code.None = none
kind_as (Code.Some k) = some (kind_in k)

-- the JSON kind of built-in number b
abbrev pub built_in_kind : ℕ → Option Kind
built_in_kind b = get_or (none ∷ built_in_kinds) b none

-- whether built-in number b takes a kind that there may be
abbrev pub takes_if : ℕ → Code.Option JsonKind → Bool
takes_if b Code.None = false
takes_if b (Code.Some k) = takes b (kind_in k)
