-- `rule::row_fits` meets its contract: by the rule, what its own judge says of the row.
use Rattle.std.proofs.Common.{ℕ, List, ap, ap₂, ◌∙◌}
use Rattle.rules.specs.Rules.{chain_fits, union_fits, return_fits}
use Rattle.table.proofs.rule.row_fits.Goals as goal

pub hashed-requires : goal.hashed-requires
hashed-requires c = rw c.in-Chains.is at c.requires.1

pub hashed-requires-in-Unions : goal.hashed-requires-in-Unions
hashed-requires-in-Unions c = rw c.in-Unions.is at c.requires.1

pub alternate_fits-requires : goal.alternate_fits-requires
alternate_fits-requires c = (c.requires.0, rw c.in-Alternates.is at c.requires.1)

pub returns-in-Chains : goal.returns-in-Chains
returns-in-Chains c = rw c.in-Chains.is (record { is = c.chain_fits.ensures ∙ ap₂ (λ (S T : List ℕ). chain_fits S T c.args.r) c.hashed.ensures.0 c.hashed.ensures.1; lent = rw c.in-Chains.is at c.requires.1 })

pub returns-in-Unions : goal.returns-in-Unions
returns-in-Unions c = rw c.in-Unions.is (record { is = c.union_fits.ensures ∙ ap₂ (λ (S T : List ℕ). union_fits S T c.args.r) c.hashed-in-Unions.ensures.0 c.hashed-in-Unions.ensures.1; lent = rw c.in-Unions.is at c.requires.1 })

pub returns-in-Alternates : goal.returns-in-Alternates
returns-in-Alternates c = rw c.in-Alternates.is (record { is = c.alternate_fits.ensures.is; lent = c.alternate_fits.ensures.looked })

pub returns-in-Returns : goal.returns-in-Returns
returns-in-Returns c = rw c.in-Returns.is (record { is = c.return_fits.ensures ∙ ap (return_fits c.args.rows.now) c.word.ensures; lent = rw c.in-Returns.is at c.requires.1 })
