-- The rows before the loop's row are in the index, and what is left decides.
use Rattle.std.proofs.Common.{◌≡◌, length}
use Rattle.grammar.specs.Notation.{apart}
use Rattle.rules.specs.Names.{clash}
use Rattle.rules.specs.Rows.{walk}
use Rattle.rules.specs.Rules.{names_of}
use Rattle.rows.proofs.IndexLaws.{RunIndex}
use Rattle.rows.proofs.hashes.HashedRows.listed_apart.Given as goal

abbrev pub invariant-loop-r : goal.invariant-loop-r
invariant-loop-r l = record {
  room : length l.links ≡ length l.initial.links;
  run : RunIndex l.self.schema.now l.self.rows.now (apart clash (names_of l.self.schema.now l.self.rows.now (walk l.self.rows.now l.a l.n))) l.heads l.links (length l.initial.links) l.r-iterator;
}
