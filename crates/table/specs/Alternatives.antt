-- Serves contracts: the alternatives of an alternate by the JSON kinds of their types.
use Rattle.std.specs.Prelude.{ℕ, ◌<◌, ◌≡◌, Bool, true, false, not, cond, ◌&&◌, List, [], ◌∷◌, eqb, get_or}
use Rattle.std.specs.Prelude as Code
use Rattle.std.proofs.Math.Option.{Option, none, some}
use Rattle.grammar.specs.Notation.{all}
use Rattle.grammar.specs.Tree.{Kind}
use Rattle.grammar.specs.Tree.Kind.{string, number, boolean}
use Rattle.rules.specs.Types.{column}
use Rattle.rules.specs.Rows.{type_ref, type_kind}
use Rattle.rules.specs.Rules.{kinds_fit}
use Rattle.table.specs.declared.looks.Like.TheVariants.{Number, Boolean}
use Rattle.table.specs.Looks.{stands_beside}

-- past the columns of the grid: no kind
abbrev pub no_column : ℕ
no_column = 6

abbrev pub kind_column : Option Kind → ℕ
kind_column none = no_column
kind_column (some k) = column k

module _ (T : List ℕ) where
  -- the column of the JSON kind of an alternative's type
  abbrev pub column_of : ℕ → ℕ
  column_of r = kind_column (type_kind T (type_ref T r))

  -- no row of a list has a type of the JSON kind with the column k
  unfoldable pub kind_new : ℕ → List ℕ → Bool
  kind_new k rs = all (λ r. not (eqb (column_of r) k)) rs

  -- the first type of the JSON kind with the column k, 0 if there is none
  unfoldable pub type_of_kind : ℕ → List ℕ → ℕ
  type_of_kind k [] = 0
  type_of_kind k (r ∷ rs) = cond (eqb (column_of r) k) (type_ref T r) (type_of_kind k rs)

-- alternatives each have a JSON kind, and no two the same; the words hold by its column the type of each kind
pub record TypesFound (T rs types : List ℕ) : Type 0 where
  pub is : kinds_fit T rs ≡ true
  pub found : (k : ℕ) → k < no_column → get_or types k 0 ≡ type_of_kind T k rs

-- such words, or none where the kinds don't fit
abbrev pub ByKind : List ℕ → List ℕ → Code.Option (List ℕ) → Type 0
ByKind T rs Code.None = kinds_fit T rs ≡ false
ByKind T rs (Code.Some types) = TypesFound T rs types

-- types by the columns of their kinds, of which strings may look like others
abbrev pub types_apart : List ℕ → List ℕ → List ℕ → Bool
types_apart S T types =
    stands_beside S T Number (get_or types (column string) 0) (get_or types (column number) 0)
    && stands_beside S T Boolean (get_or types (column string) 0) (get_or types (column boolean) 0)
