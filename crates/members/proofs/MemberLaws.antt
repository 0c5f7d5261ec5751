-- The member that a key means: up a chain of bases, and of two structs.
-- The idea: the first of a list that fits is the first of its front that does, or else of its rest; members split at each base link.
use Prim.Native.Nat.{ℕ, zero, suc, ◌-◌}
use mathlib.Core.Path.{◌≡◌, refl, sym, ap, ap₂, ◌∙◌}
use mathlib.Core.Bool.{Bool, true, false, not, cond, ◌||◌}
use mathlib.Core.List.{List, [], ◌∷◌, ◌++◌}
use mathlib.Core.Option.{Option, none, some}
use native.Mathlib.Omega.{arith}
use lib.Dec.{eqb}
use borrow.Author.Tests.{ne_eqb}
use Rattle.grammar.specs.Limits.{chain_structs}
use Rattle.grammar.specs.Notation.{same}
use Rattle.rules.specs.Values.{any_of}
use Rattle.rules.specs.Rows.{base, branch_struct, children, members, after, name_of}
use Rattle.rules.specs.Rules.{names_of}
use Rattle.rules.specs.SchemaTable.{member_in}
use Rattle.rules.specs.Serving.ReadingOf.{branch_link}
use Rattle.rules.proofs.Lists.{none-not-some}
use Rattle.children.specs.Index.{IndexedTable}
use Rattle.lookups.specs.Lookups.{MeaningAt}
use Rattle.children.specs.Children.{ChildMeant}
use Rattle.members.specs.Members.{MemberMeant, FieldMember}

-- a link is there
abbrev pub not0 : ℕ → Bool
not0 x = not (eqb x 0)

-- lookups by name
module _ (S T : List ℕ) (cs : List ℕ) where
  pub member-front : (a b : List ℕ) {x : ℕ} → x ≡ member_in S T cs a → (x ≡ 0 → ⊥) → x ≡ member_in S T cs (a ++ b)
  member-front [] b e n = absurd (n e)
  member-front (c ∷ a) b {x} e n = go (same cs (name_of S T c)) e (λ q. member-front a b q n)
    where
      go : (t : Bool) → x ≡ cond t (suc c) (member_in S T cs a) → (x ≡ member_in S T cs a → x ≡ member_in S T cs (a ++ b)) → x ≡ cond t (suc c) (member_in S T cs (a ++ b))
      go true q r = q
      go false q r = r q

  pub member_back : (a b : List ℕ) → 0 ≡ member_in S T cs a → member_in S T cs (a ++ b) ≡ member_in S T cs b
  member_back [] b e = refl
  member_back (c ∷ a) b e = go (same cs (name_of S T c)) e (member_back a b)
    where
      go : (t : Bool) → 0 ≡ cond t (suc c) (member_in S T cs a) → (0 ≡ member_in S T cs a → member_in S T cs (a ++ b) ≡ member_in S T cs b)
          → cond t (suc c) (member_in S T cs (a ++ b)) ≡ member_in S T cs b
      go true q r = absurd (omega arith)
      go false q r = r q

  -- it agrees with the other lookups by name
  pub one_of : (l : List ℕ) → not0 (member_in S T cs l) ≡ any_of (names_of S T l) cs
  one_of [] = refl
  one_of (c ∷ l) = go (same cs (name_of S T c)) (one_of l)
    where
      go : (t : Bool) → not0 (member_in S T cs l) ≡ any_of (names_of S T l) cs → not0 (cond t (suc c) (member_in S T cs l)) ≡ t || any_of (names_of S T l) cs
      go true q = ap not (ne_eqb (suc c) 0 (λ (h : suc c ≡ 0). omega arith))
      go false q = q

  pub branch-none : (l : List ℕ) → 0 ≡ member_in S T cs l → branch_link S T cs l ≡ 0
  branch-none [] e = refl
  branch-none (c ∷ l) e = go (same cs (name_of S T c)) e (branch-none l)
    where
      go : (t : Bool) → 0 ≡ cond t (suc c) (member_in S T cs l) → (0 ≡ member_in S T cs l → branch_link S T cs l ≡ 0) → cond t (branch_struct T c) (branch_link S T cs l) ≡ 0
      go true q r = absurd (omega arith)
      go false q r = r q

  pub branch-at : (l : List ℕ) {x : ℕ} → x ≡ member_in S T cs l → (x ≡ 0 → ⊥) → branch_link S T cs l ≡ branch_struct T (x - 1)
  branch-at [] e n = absurd (n e)
  branch-at (c ∷ l) {x} e n = go (same cs (name_of S T c)) e (λ q. branch-at l q n)
    where
      go : (t : Bool) → x ≡ cond t (suc c) (member_in S T cs l) → (x ≡ member_in S T cs l → branch_link S T cs l ≡ branch_struct T (x - 1))
          → cond t (branch_struct T c) (branch_link S T cs l) ≡ branch_struct T (x - 1)
      go true q r = let z : x - 1 ≡ c = omega arith in ap (branch_struct T) (sym z)
      go false q r = r q

-- up a chain of bases
module _ (T : List ℕ) where
  pub members-zero : (n : ℕ) → members T n 0 ≡ some []
  unfolding members
  members-zero zero = refl
  members-zero (suc n) = refl

  pub members-none : (n l : ℕ) {ms : List ℕ} → l ≡ 0 → members T n l ≡ some ms → ms ≡ []
  members-none n l z e = let y : some [] ≡ some _ = sym (ap (members T n) z ∙ members-zero n) ∙ e in cc

  pub members_out : (n l : ℕ) {ms : List ℕ} → (l ≡ 0 → ⊥) → n ≡ 0 → members T n l ≡ some ms → ⊥
  unfolding members
  members_out n zero h z e = h refl
  members_out zero (suc r) h z e = none-not-some e
  members_out (suc n) (suc r) h z e = omega arith

  -- the members that the base has, and then the struct's own
  pub record Split (n l : ℕ) (ms : List ℕ) : Type 0 where
    pub inherited : List ℕ
    pub inherited_is : members T (n - 1) (base T (l - 1)) ≡ some inherited
    pub all_are : ms ≡ inherited ++ children T (l - 1)

  one_up : (n r : ℕ) (ms : List ℕ) → members T (suc n) (suc r) ≡ some ms → (ns : List ℕ) × (members T n (base T r) ≡ some ns) × (ms ≡ ns ++ children T r)
  unfolding members
  one_up n r ms e = go (members T n (base T r)) refl e
    where
      go : (o : Option (List ℕ)) → members T n (base T r) ≡ o → after o (children T r) ≡ some ms
          → (ns : List ℕ) × (members T n (base T r) ≡ some ns) × (ms ≡ ns ++ children T r)
      go none p q = absurd (none-not-some q)
      go (some ns) p q = (ns, p, let z : ms ≡ ns ++ children T r = cc in z)

  pub members-split : (n l : ℕ) (ms : List ℕ) → (l ≡ 0 → ⊥) → (n ≡ 0 → ⊥) → members T n l ≡ some ms → Split n l ms
  members-split n l ms h k e =
      let x : n ≡ suc (n - 1) = omega arith in
      let y : l ≡ suc (l - 1) = omega arith in
      let u = one_up (n - 1) (l - 1) ms (sym (ap₂ (members T) x y) ∙ e) in
      record { inherited = u.0; inherited_is = u.1; all_are = u.2 }

module _ {S T m w ix : List ℕ} {left link k : ℕ} where
  pub meant_none : link ≡ 0 → MemberMeant S T m w ix left link k 0
  meant_none z = record { told = λ cs o u ms e. ap (member_in S T cs) (sym (members-none T left link z e)) }

  module _ (h : link ≡ 0 → ⊥) where
    pub meant_out : left ≡ 0 → MemberMeant S T m w ix left link k 0
    meant_out z = record { told = λ cs o u ms e. absurd (members_out T left link h z e) }

    module _ (n : left ≡ 0 → ⊥) {r b x : ℕ} (q : r ≡ link - 1) (p : b ≡ base T r) (g : MemberMeant S T m w ix (left - 1) b k x) where
      inherits : (cs : List ℕ) → IndexedTable S T ix → MeaningAt m w k cs → (ms : List ℕ) → (s : Split T left link ms) → x ≡ member_in S T cs s.inherited
      inherits cs o u ms s = g.told cs o u s.inherited (ap (members T (left - 1)) (p ∙ ap (base T) q) ∙ s.inherited_is)

      pub meant_inherited : (x ≡ 0 → ⊥) → MemberMeant S T m w ix left link k x
      meant_inherited f = record {
        told = λ cs o u ms e.
            let s = members-split T left link ms h n e in
            member-front S T cs s.inherited (children T (link - 1)) (inherits cs o u ms s) f ∙ ap (member_in S T cs) (sym s.all_are);
      }

      pub meant_own : x ≡ 0 → {y : ℕ} → ChildMeant S T m w ix r k y → MemberMeant S T m w ix left link k y
      meant_own f d = record {
        told = λ cs o u ms e.
            let s = members-split T left link ms h n e in
            d.told cs o u ∙ ap (λ (z : ℕ). member_in S T cs (children T z)) q
            ∙ sym (ap (member_in S T cs) s.all_are ∙ member_back S T cs s.inherited (children T (link - 1)) (sym f ∙ inherits cs o u ms s));
      }

-- of two structs
module _ {S T m w ix : List ℕ} {k b c x : ℕ} (g : MemberMeant S T m w ix chain_structs b k x) where
  pub field-base : (x ≡ 0 → ⊥) → FieldMember S T m w ix k b c x
  field-base f = record { told = λ cs o u ms bs p q. member-front S T cs ms bs (g.told cs o u ms p) f }

  pub field-branch : x ≡ 0 → {y : ℕ} → MemberMeant S T m w ix chain_structs c k y → FieldMember S T m w ix k b c y
  field-branch f d = record { told = λ cs o u ms bs p q. d.told cs o u bs q ∙ sym (member_back S T cs ms bs (sym f ∙ g.told cs o u ms p)) }
