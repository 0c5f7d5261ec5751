-- `stages::judge_definitions` meets its contract: chains, unions, alternates and returns in turn, then the rest.
use mathlib.Core.Path.{refl}
use Rattle.rules.specs.Serving.Answers.{rank}
use Rattle.rules.specs.Rules.{good_chains, good_unions, good_alternates, good_returns}
use Rattle.rules.specs.declared.SchemaRefusal.TheVariants.{BadChain, BadUnion, BadAlternate, BadReturn}
use Rattle.rows.proofs.Walks.{so}
use Rattle.table.proofs.LookLaws.{hashes_looked}
use Rattle.schema.proofs.StageLaws.{broken, kept}
use Rattle.schema.proofs.stages.judge_definitions.Goals as goal

pub returns-then-not-every_row_fits : goal.returns-then-not-every_row_fits
returns-then-not-every_row_fits c =
    let S = c.args.schema.now in
    let t = c.requires.2 in
    broken t BadChain (good_chains S) refl refl c.requires.1 (so c.every_row_fits.ensures.is c.if-not-every_row_fits.true)

pub returns-then-not-every_row_fits-2 : goal.returns-then-not-every_row_fits-2
unfolding rank
returns-then-not-every_row_fits-2 c =
    let S = c.args.schema.now in
    let t = c.requires.2 in
    kept t BadChain (good_chains S) refl refl (so c.every_row_fits.ensures.is c.if-not-every_row_fits.false) (broken t BadUnion (good_unions S) refl refl c.requires.1 (so c.every_row_fits-2.ensures.is c.if-not-every_row_fits-2.true))

pub every_row_fits-requires-3 : goal.every_row_fits-requires-3
every_row_fits-requires-3 c = (c.requires.0, hashes_looked c.every_row_fits-2.ensures.lent c.shared_slice_known-1.given)

pub returns-then-not-every_row_fits-3 : goal.returns-then-not-every_row_fits-3
unfolding rank
returns-then-not-every_row_fits-3 c =
    let S = c.args.schema.now in
    let t = c.requires.2 in
    kept t BadChain (good_chains S) refl refl (so c.every_row_fits.ensures.is c.if-not-every_row_fits.false) (kept t BadUnion (good_unions S) refl refl (so c.every_row_fits-2.ensures.is c.if-not-every_row_fits-2.false) (broken t BadAlternate (good_alternates S) refl refl c.requires.1 (so c.every_row_fits-3.ensures.is c.if-not-every_row_fits-3.true)))

pub returns-then-not-every_row_fits-4 : goal.returns-then-not-every_row_fits-4
unfolding rank
returns-then-not-every_row_fits-4 c =
    let S = c.args.schema.now in
    let t = c.requires.2 in
    kept t BadChain (good_chains S) refl refl (so c.every_row_fits.ensures.is c.if-not-every_row_fits.false) (kept t BadUnion (good_unions S) refl refl (so c.every_row_fits-2.ensures.is c.if-not-every_row_fits-2.false) (kept t BadAlternate (good_alternates S) refl refl (so c.every_row_fits-3.ensures.is c.if-not-every_row_fits-3.false) (broken t BadReturn (good_returns S) refl refl c.requires.1 (so c.every_row_fits-4.ensures.is c.if-not-every_row_fits-4.true))))

pub returns : goal.returns
unfolding rank
returns c =
    let S = c.args.schema.now in
    let t = c.requires.2 in
    kept t BadChain (good_chains S) refl refl (so c.every_row_fits.ensures.is c.if-not-every_row_fits.false) (kept t BadUnion (good_unions S) refl refl (so c.every_row_fits-2.ensures.is c.if-not-every_row_fits-2.false) (kept t BadAlternate (good_alternates S) refl refl (so c.every_row_fits-3.ensures.is c.if-not-every_row_fits-3.false) (kept t BadReturn (good_returns S) refl refl (so c.every_row_fits-4.ensures.is c.if-not-every_row_fits-4.false) c.judge_room.ensures)))
