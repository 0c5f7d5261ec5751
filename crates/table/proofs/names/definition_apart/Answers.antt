-- `table::names::definition_apart` says whether a row is no definition, or has a new name that is no built-in's.
-- Its name is looked up along its own link.
use Rattle.std.proofs.Common.{ap, ◌∙◌}
use Rattle.rows.specs.Hashes.{hash_of}
use Rattle.table.proofs.DistinctLaws.{no_definition, named-built_in, named_new}
use Rattle.table.proofs.names.definition_apart.Goals as goal

pub returns-then-not-is_definition : goal.returns-then-not-is_definition
returns-then-not-is_definition c = no_definition c.args.r c.is_definition.ensures (c.if-not-is_definition.true)

pub returns-then-is_some : goal.returns-then-is_some
returns-then-is_some c = named-built_in _ c.is_definition.ensures (c.if-not-is_definition.false) c.name_of-name.ensures c.built_in.ensures c.is_some.ensures c.if-is_some.true

pub returns : goal.returns
returns c = named_new _ c.is_definition.ensures (c.if-not-is_definition.false) c.name_of-name.ensures c.built_in.ensures c.is_some.ensures c.if-is_some.false (c.of.result.hashed ∙ ap hash_of c.of.ensures) c.next.ensures (rw c.of.ensures at c.is_unlisted.ensures)
