-- Every other row is tested, by its name.
use Rattle.std.proofs.Common.{rules, ℕ, List, not, sym, ap, ◌∙◌}
use Rattle.rules.specs.Names.{clash}
use Rattle.rules.specs.Rows.{name_of}
use Rattle.rows.specs.Hashes.{fresh_in}
use Rattle.rows.proofs.ListLaws.{all_map}
use Rattle.rows.proofs.WalkRuns.{all-run}
use Rattle.rows.proofs.hashes.HashedRows.is_fresh.Goals as goal

pub returns : goal.returns
returns c =
    let named : ℕ → List ℕ = name_of c.args.self.schema.now c.args.self.rows.now in
    all-run _ (λ r. not (clash c.of-name.result.name.now (named r))) c.all.ensures.ran (λ r b k h. search rules)
    ∙ sym (all_map named (λ y. not (clash c.of-name.result.name.now y)) c.args.among)
    ∙ ap (λ x. fresh_in c.args.self.schema.now c.args.self.rows.now x c.args.among) (c.of-name.ensures ∙ c.name_of.ensures)
