-- An order of lists of numbers, that of slices: by the first place where they differ, a list before what goes on after it; and what bytes stand for.
use Rattle.std.specs.Prelude.{ℕ, List}
use Rattle.std.specs.Cmp.Lexicographic.{slice_cmp}
use Rattle.std.specs.Ordering.{nat_cmp}
use Rattle.std.specs.declared.cmp.Ordering.{Ordering}
use Rattle.rules.specs.Names.{c_name}
use Rattle.sorted.specs.declared.orders.Sense.{Sense}
use Rattle.sorted.specs.declared.orders.Sense.TheVariants.{Bytes, NameInC}
use Rattle.sorted.specs.Spans.{span_at}

-- how the first of two lists stands to the second
unfoldable pub order : List ℕ → List ℕ → Ordering
order = slice_cmp nat_cmp

-- what bytes stand for
abbrev pub stands_for : Sense → List ℕ → List ℕ
stands_for Bytes x = x
stands_for NameInC x = c_name x

-- what span k stands for
unfoldable pub stands_at : Sense → List ℕ → List ℕ → ℕ → List ℕ
stands_at sense s w k = stands_for sense (span_at s w k)
