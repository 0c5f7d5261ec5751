-- `orders::order_of` meets its contract: slices and iterators are compared as lists are.
use Rattle.std.proofs.Common.{◌≡◌, refl, rules}
use Rattle.std.specs.Ordering.{nat_cmp}
use Rattle.std.proofs.lemmas.Iterator.{YieldsList-from_slice, YieldsList-from_map}
use Rattle.std.proofs.lemmas.Iterator.Search.{cmp_from_yields_List}
use Rattle.rules.specs.Names.{c_byte}
use Rattle.sorted.specs.Orders.{order}
use Rattle.sorted.proofs.orders.order_of.Goals as goal

pub returns-in-Bytes : goal.returns-in-Bytes
unfolding order
returns-in-Bytes c = rw c.in-Bytes.is c.cmp.ensures

pub returns-in-NameInC : goal.returns-in-NameInC
unfolding order
returns-in-NameInC c =
    rw c.in-NameInC.is
    (cmp_from_yields_List (λ x y. y ≡ x) _ nat_cmp _ c.cmp-in-NameInC.ensures.ran
    (YieldsList-from_map _ c_byte (YieldsList-from_slice c.args.x.now cc) c.map.ensures.closure (λ x r q k. search rules))
    (λ it e. YieldsList-from_map _ c_byte (YieldsList-from_slice c.args.y.now cc) c.map-in-NameInC.ensures.closure (λ x r q k. search rules)) (λ x y. refl))
