-- Each row's name is fresh among the others.
use Rattle.std.proofs.Common.{rules, ℕ, List, sym, ◌∙◌}
use Rattle.rules.specs.Rows.{name_of}
use Rattle.rules.specs.Rules.{names_of}
use Rattle.rules.proofs.Clashes.{fresh}
use Rattle.rows.specs.Hashes.{fresh_in}
use Rattle.rows.proofs.ListLaws.{all_map}
use Rattle.rows.proofs.WalkRuns.{all-run}
use Rattle.rows.proofs.hashes.HashedRows.runs_apart.Goals as goal

pub returns : goal.returns
returns c =
    let named : ℕ → List ℕ = name_of c.args.self.schema.now c.args.self.rows.now in
    all-run _ (λ r. fresh_in c.args.self.schema.now c.args.self.rows.now (named r) c.args.others) c.all.ensures.ran (λ r b k h. search rules)
    ∙ sym (all_map named (λ x. fresh x (names_of c.args.self.schema.now c.args.self.rows.now c.args.others)) c.args.rows)
