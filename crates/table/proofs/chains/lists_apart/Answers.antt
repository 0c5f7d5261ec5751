-- Two walks over children.
use Rattle.std.proofs.Common.{ap₂, ◌∙◌}
use Rattle.rules.specs.Rules.{names_of, no_clash}
use Rattle.table.proofs.chains.lists_apart.Goals as goal

pub returns : goal.returns
returns c =
    c.runs_apart.ensures
    ∙ ap₂ (λ ss rs. no_clash (names_of c.args.table.schema.now c.args.table.rows.now ss) (names_of c.args.table.schema.now c.args.table.rows.now rs)) c.children.ensures c.children-2.ensures
