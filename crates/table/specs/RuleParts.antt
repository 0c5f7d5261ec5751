-- Serves contracts: the parts of rules that one function of the judge looks at.
use Rattle.std.specs.Prelude.{ℕ, ◌+◌, ◌-◌, Bool, cond, ◌&&◌, ◌||◌, List, eqb, ltb, leb, length}
use Rattle.std.proofs.Math.Option.{Option, none, some}
use Rattle.grammar.specs.Limits.{chain_structs}
use Rattle.grammar.specs.Tree.{Kind}
use Rattle.grammar.specs.Tree.Kind.{object, string}
use Rattle.rules.specs.Kinds.{enum_kind, struct_kind, union_kind}
use Rattle.rules.specs.Types.{first_row}
use Rattle.rules.specs.Rows.{row_count, start, size, is_enum, type_ref, array_mark, optional, union_base, discriminator, branch_struct}
use Rattle.rules.specs.Rows.{name_of}
use Rattle.rules.specs.Rules.{every_row, discriminator_row, good_names, distinct_names, good_chains, good_unions, good_alternates, good_returns}
use Rattle.rules.specs.Sound.{laid_out, rest_zero, references_fit}
use Rattle.table.specs.Chains.{chain_ends, has_child, is_member, members_apart}
use Rattle.table.specs.declared.chains.Against.TheVariants.{Members}

-- the JSON kind of a type of that row kind
abbrev pub kind_of_row : ℕ → Option Kind
kind_of_row k = cond (eqb k enum_kind) (some string) (cond (eqb k struct_kind || eqb k union_kind) (some object) none)

module _ (T : List ℕ) where
  -- row d is a mandatory member, no array, of an enum type
  unfoldable pub can_discriminate : ℕ → Bool
  can_discriminate d = eqb (optional T d) 0 && eqb (array_mark T d) 0 && leb first_row (type_ref T d) && is_enum T (type_ref T d - first_row)

  -- the discriminator of union r can discriminate and is a member of the base, as a walk up the chain finds them
  unfoldable pub discriminates : ℕ → Bool
  discriminates r = ltb 0 (discriminator T r) && is_member T chain_structs (union_base T r) (discriminator_row T r) && can_discriminate (discriminator_row T r)

  unfoldable pub rows_fit : Bool
  rows_fit = every_row T (λ r. rest_zero T r && references_fit T r)

module _ (S T : List ℕ) where
  -- branch b is named by a value of the enum at row e, and its struct repeats no member of the one with the link `base`
  unfoldable pub branch_new : ℕ → ℕ → ℕ → Bool
  branch_new e base b = has_child S T e (name_of S T b) && chain_ends T chain_structs (branch_struct T b) && members_apart S T (Members base) chain_structs (branch_struct T b)

  unfoldable pub names_within : Bool
  names_within = every_row T (λ r. leb (start T r + size T r) (length S))

  -- sound, but for the lengths, in two parts; of the rules, 8 to 11 apart
  unfoldable pub shaped : Bool
  shaped = names_within && laid_out T (row_count T) 0 && rows_fit T

  unfoldable pub definitions_fit : Bool
  definitions_fit = good_chains S T && good_unions S T && good_alternates S T && good_returns S T

  unfoldable pub keeps_rules : Bool
  keeps_rules = good_names S T && distinct_names S T && definitions_fit
