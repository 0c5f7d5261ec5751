-- Mandatory members counted up a chain of bases, and of two structs.
-- The idea: a chain's members are the base's and then the struct's own, and a count of two lists is the sum.
use Prim.Native.Nat.{ℕ, ◌+◌, ◌-◌}
use mathlib.Core.Path.{◌≡◌, sym, ap, ap₂, ◌∙◌}
use mathlib.Core.List.{List}
use native.Mathlib.Omega.{arith}
use Rattle.grammar.specs.Limits.{chain_structs}
use Rattle.rules.specs.Rows.{base, children, members}
use Rattle.children.specs.Counts.{mandatory_in}
use Rattle.children.specs.Children.{OwnMandatory}
use Rattle.children.proofs.CountLaws.{count-append}
use Rattle.members.specs.Mandatory.{MandatoryCount, MandatoryMembers}
use Rattle.members.proofs.MemberLaws.{members-none, members_out, members-split}

-- up a chain of bases
module _ {T ix : List ℕ} {left link : ℕ} where
  pub count_none : link ≡ 0 → MandatoryCount T ix left link 0
  unfolding mandatory_in
  count_none z = record { small = omega arith; told = λ S o ms e. ap (mandatory_in T) (sym (members-none T left link z e)) }

  module _ (h : link ≡ 0 → ⊥) where
    pub count_out : left ≡ 0 → MandatoryCount T ix left link 0
    count_out z = record { small = omega arith; told = λ S o ms e. absurd (members_out T left link h z e) }

    module _ (n : left ≡ 0 → ⊥) {r b x y : ℕ} (q : r ≡ link - 1) (p : b ≡ base T r) (g : MandatoryCount T ix (left - 1) b x) (d : OwnMandatory T ix r y) where
      pub count-own : MandatoryCount T ix left link (x + y)
      count-own = record {
        small = omega (arith, g.small, d.small);
        told = λ S o ms e.
            let s = members-split T left link ms h n e in
            ap₂ ◌+◌ (g.told S o s.inherited (ap (members T (left - 1)) (p ∙ ap (base T) q) ∙ s.inherited_is))
            (d.told S o ∙ ap (λ (z : ℕ). mandatory_in T (children T z)) q)
            ∙ sym (ap (mandatory_in T) s.all_are ∙ count-append T s.inherited (children T (link - 1)));
      }

-- of two structs
pub count-both : {T ix : List ℕ} {b c y z : ℕ} → MandatoryCount T ix chain_structs b y → MandatoryCount T ix chain_structs c z → MandatoryMembers T ix b c (y + z)
count-both {T} g d = record { told = λ S o ms bs p q. ap₂ ◌+◌ (g.told S o ms p) (d.told S o bs q) ∙ sym (count-append T ms bs) }
