-- those passed have ended
use mathlib.Core.Path.{◌≡◌}
use Rattle.trees.specs.Backwards.{back}
use Rattle.trees.specs.Nesting.{still_open}
use Rattle.trees.proofs.depth.Around.shut.Given as goal

abbrev pub invariant-loop-i : goal.invariant-loop-i
invariant-loop-i g l = record {
  same : l.self-inside ≡ l.initial.self-inside;
  passed : still_open l.start (back l.self-inside.ends l.i) ≡ still_open l.start (back l.self-inside.ends l.self-inside.count);
}
