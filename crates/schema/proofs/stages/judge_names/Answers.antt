-- `stages::judge_names` meets its contract: good, distinct and known names in turn, then the rest.
use mathlib.Core.Path.{refl}
use Rattle.rules.specs.Serving.Answers.{rank}
use Rattle.rules.specs.Rules.{good_names, distinct_names}
use Rattle.rules.specs.declared.SchemaRefusal.TheVariants.{BadName, RepeatedName}
use Rattle.rows.proofs.Walks.{so}
use Rattle.schema.proofs.StageLaws.{broken, kept, unknown, all_known}
use Rattle.schema.proofs.stages.judge_names.Goals as goal

pub returns-then-not-good_names : goal.returns-then-not-good_names
returns-then-not-good_names c = let S = c.args.schema.now in broken c.requires.4 BadName (good_names S) refl refl c.requires.3 (so c.good_names.ensures c.if-not-good_names.true)

pub returns-then-not-distinct_names : goal.returns-then-not-distinct_names
unfolding rank
returns-then-not-distinct_names c = let S = c.args.schema.now in kept c.requires.4 BadName (good_names S) refl refl (so c.good_names.ensures c.if-not-good_names.false) (broken c.requires.4 RepeatedName (distinct_names S) refl refl c.requires.3 (so c.distinct_names.ensures c.if-not-distinct_names.true))

pub returns-then-not-found : goal.returns-then-not-found
unfolding rank
returns-then-not-found c = let S = c.args.schema.now in kept c.requires.4 BadName (good_names S) refl refl (so c.good_names.ensures c.if-not-good_names.false) (kept c.requires.4 RepeatedName (distinct_names S) refl refl (so c.distinct_names.ensures c.if-not-distinct_names.false) (unknown c.requires.4 c.requires.5 c.requires.3 (c.if-not-found.true)))

pub returns : goal.returns
unfolding rank
returns c = let S = c.args.schema.now in kept c.requires.4 BadName (good_names S) refl refl (so c.good_names.ensures c.if-not-good_names.false) (kept c.requires.4 RepeatedName (distinct_names S) refl refl (so c.distinct_names.ensures c.if-not-distinct_names.false) (all_known c.requires.4 c.requires.5 (c.if-not-found.false) c.judge_definitions.ensures))
