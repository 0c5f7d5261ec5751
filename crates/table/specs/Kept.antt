-- Serves contracts: rules 8 to 11 as one function of the rule, of a row and of the whole table, and what the lent words hold.
use Rattle.std.specs.Prelude.{ℕ, ◌≡◌, Bool, List}
use Rattle.rules.specs.Kinds.{struct_kind, union_kind, alternate_kind, command_kind}
use Rattle.rules.specs.Rows.{returns}
use Rattle.rules.specs.Rules.{chain_fits, union_fits, alternate_fits, return_fits, good_chains, good_unions, good_alternates, good_returns}
use Rattle.rows.specs.Hashes.{Hashes}
use Rattle.table.specs.Looks.{Looked}
use Rattle.table.specs.declared.rule.Rule.{Rule}
use Rattle.table.specs.declared.rule.Rule.TheVariants.{Chains, Unions, Alternates, Returns}

-- the kind of the rows that a rule is on
abbrev pub ruled_kind : Rule → ℕ
ruled_kind Chains = struct_kind
ruled_kind Unions = union_kind
ruled_kind Alternates = alternate_kind
ruled_kind Returns = command_kind

-- a row of that kind keeps the rule
abbrev pub fits_rule : Rule → List ℕ → List ℕ → ℕ → Bool
fits_rule Chains S T r = chain_fits S T r
fits_rule Unions S T r = union_fits S T r
fits_rule Alternates S T r = alternate_fits S T r
fits_rule Returns S T r = return_fits T (returns T r)

-- a table keeps the rule
abbrev pub keeps_rule : Rule → List ℕ → List ℕ → Bool
keeps_rule Chains S T = good_chains S T
keeps_rule Unions S T = good_unions S T
keeps_rule Alternates S T = good_alternates S T
keeps_rule Returns S T = good_returns S T

-- what the lent words hold while a rule is judged: hashes of names, and from rule 10 on what enums look like
abbrev pub Lent : Rule → List ℕ → List ℕ → List ℕ → Type 0
Lent Chains S T words = Hashes S T words
Lent Unions S T words = Hashes S T words
Lent Alternates S T words = Looked S T words
Lent Returns S T words = Looked S T words

-- b is the answer, and the words hold it still
pub record Judged (rule : Rule) (S T words : List ℕ) (answer b : Bool) : Type 0 where
  pub is : b ≡ answer
  pub lent : Lent rule S T words
