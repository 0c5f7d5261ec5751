-- The walk that is left ends where the whole one does.
use Rattle.std.proofs.Common.{◌≡◌, ◌+◌, ◌-◌, ◌≤◌, ◌^◌}
use Rattle.rules.specs.Rows.{past}
use Rattle.rows.specs.Rows.{Room}
use Rattle.rows.proofs.rows.past_rows.Given as goal

abbrev pub invariant-loop : goal.invariant-loop
invariant-loop l = record {
  room : Room l.i (l.n - l.counter);
  ends : past l.rows l.c l.n ≡ past l.rows l.i (l.n - l.counter);
  low : l.i - 2 ^ 61 + (l.n - l.counter) ≤ l.c - 2 ^ 61 + l.n;
}
