-- the first bytes are shown
use Prim.Native.Nat.{◌≤◌, ◌+◌, ◌*◌}
use mathlib.Core.Path.{◌≡◌}
use mathlib.Core.List.{◌++◌}
use lib.ListN.{length, take}
use Rattle.trees.specs.Escapes.{shown_bytes}
use Rattle.trees.specs.Serving.Rooms.{escape_bytes}
use Rattle.trees.proofs.shown.put_each.Given as goal

abbrev pub invariant-loop-b : goal.invariant-loop-b
invariant-loop-b g l = record {
  puts : l.out ≡ l.initial.out ++ shown_bytes (take l.b-index l.bytes);
  few : length l.out ≤ length l.initial.out + escape_bytes * l.b-index;
}
