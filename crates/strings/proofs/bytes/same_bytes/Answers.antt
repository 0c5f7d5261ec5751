-- slices of other lengths or last bytes differ, and else their blocks decide
use Prim.Native.Nat.{ℕ, ◌-◌}
use mathlib.Core.Path.{◌≡◌, refl, sym, ap, ◌∙◌}
use mathlib.Core.Bool.{Bool, true, false, not}
use mathlib.Core.List.{List}
use lib.Dec.{eqb}
use lib.ListN.{length}
use denote.Ref.{Bor}
use borrow.Author.Tests.{eq-eqb}
use Rattle.std.specs.Option.{option_eq}
use Rattle.std.specs.Prelude.{Option, Some, None, option_copied, slice_get}
use Rattle.grammar.specs.Notation.{same}
use Rattle.grammar.proofs.Booleans.{clash}
use Rattle.grammar.proofs.Lists.{different}
use Rattle.strings.proofs.bytes.same_bytes.Goals as goal

-- two options of equal values are equal
equal : (p q : Option (Bor ℕ)) → option_copied p ≡ option_copied q → option_eq (λ x y. eqb x.now y.now) p q ≡ true
equal None None e = refl
equal None (Some y) e = cc
equal (Some x) None e = cc
equal (Some x) (Some y) e = eq-eqb _ _ cc

last-differs : (x y : List ℕ) (p q : Option (Bor ℕ)) {r : Bool} → option_copied p ≡ slice_get x (length x - 1) → option_copied q ≡ slice_get y (length y - 1)
    → r ≡ not (option_eq (λ x y. eqb x.now y.now) p q) → r ≡ true → false ≡ same x y
last-differs x y p q f g h n =
    sym (different x y (λ e. clash (sym h ∙ n) (ap not (equal p q (f ∙ ap (λ l. slice_get l (length l - 1)) e ∙ sym g)))))

pub returns-then-x-y : goal.returns-then-x-y
returns-then-x-y c = sym (different c.args.x.now c.args.y.now (λ e. c.if-x-y.true (ap length e)))

pub returns-then-ne : goal.returns-then-ne
returns-then-ne c = last-differs c.args.x.now c.args.y.now c.last.result c.last-2.result c.last.ensures.value c.last-2.ensures.value c.ne.ensures c.if-ne.true
