-- The order of lists: it tells the same from the different, and goes on from one to the next.
use Prim.Native.Nat.{ℕ}
use mathlib.Core.Path.{◌≡◌, sym, ap, ◌∙◌}
use mathlib.Core.Bool.{true, false}
use mathlib.Core.List.{List}
use Rattle.std.specs.Cmp.Lexicographic.{bytes_decides}
use Rattle.std.specs.Ordering.{is_eq, is_gt, ordering_reverse}
use Rattle.std.specs.declared.cmp.Ordering.{Ordering}
use Rattle.std.specs.declared.cmp.Ordering.TheVariants.{Less, Equal, Greater}
use Rattle.std.proofs.lemmas.Cmp.{upto, tied_itself, nat_list_cmp_total}
use Rattle.std.proofs.lemmas.Map.Text.{is_eq-slice_cmp}
use Rattle.sorted.specs.Orders.{order}

-- the first of two does not stand after the second
abbrev pub NotAfter : List ℕ → List ℕ → Type 0
NotAfter xs ys = is_gt (order xs ys) ≡ false

pub order_same : (xs ys : List ℕ) → xs ≡ ys → order xs ys ≡ Equal
unfolding order
order_same xs ys e = rw e (tied_itself nat_list_cmp_total ys)

pub order_is : (xs ys : List ℕ) → is_eq (order xs ys) ≡ true → xs ≡ ys
unfolding order
order_is xs ys e = (bytes_decides xs ys).0 (sym (is_eq-slice_cmp xs ys) ∙ e)

pub same_up : (xs ys : List ℕ) → xs ≡ ys → NotAfter xs ys
same_up xs ys e = ap is_gt (order_same xs ys e)

-- what stands after neither way is the same
pub order_anti : (xs ys : List ℕ) → NotAfter xs ys → NotAfter ys xs → xs ≡ ys
unfolding order
order_anti xs ys p q = order_is xs ys (both (order xs ys) (order ys xs) (nat_list_cmp_total.antisymm xs ys) p q)
  where
    both : (o r : Ordering) → o ≡ ordering_reverse r → is_gt o ≡ false → is_gt r ≡ false → is_eq o ≡ true
    both o Less e p q = cc
    both o Equal e p q = ap is_eq e
    both o Greater e p q = cc

pub order_trans : (xs ys zs : List ℕ) → NotAfter xs ys → NotAfter ys zs → NotAfter xs zs
unfolding order
order_trans xs ys zs p q = upto nat_list_cmp_total xs ys zs p q
