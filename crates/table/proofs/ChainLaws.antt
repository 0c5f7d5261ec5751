-- What the walks up a chain of bases say of the list of members, and rule 8 of a row.
-- A walk is known by what it is at link 0, where no struct is left, and one struct on; the laws go by the number of structs left, one base link at a time.
use Prim.Native.Nat.{ℕ, zero, suc, ◌-◌}
use mathlib.Core.Path.{◌≡◌, refl, sym, ap, ap₂, ◌∙◌}
use mathlib.Core.Bool.{Bool, true, false, not, ◌&&◌, ◌||◌}
use mathlib.Core.List.{List, [], ◌++◌}
use mathlib.Core.Option.{Option, none, some}
use native.Mathlib.Omega.{arith}
use lib.Dec.{eqb}
use Rattle.grammar.specs.Limits.{chain_structs}
use Rattle.grammar.specs.Notation.{all}
use Rattle.rules.specs.Names.{clash}
use Rattle.rules.specs.Rows.{base, children, members, after, name_of}
use Rattle.rules.specs.Rules.{any, is, names_of, no_clash, base_structs, chain_fits}
use Rattle.rules.proofs.Lists.{none-not-some}
use Rattle.rules.proofs.Clashes.{fresh}
use Rattle.table.specs.declared.chains.Against.{Against}
use Rattle.table.specs.declared.chains.Against.TheVariants.{Children, Members}
use Rattle.table.specs.Chains.{chain_ends, is_member, lists_apart, every_struct, own_apart, members_apart}
use Rattle.rows.proofs.ListLaws.{all-map-append, any_append, all_same, all_true, all_both, is_guard}

-- a walk by structs left and link: `none` at link 0, `out` where no struct is left, and `on` of the walk from the base and the struct's row
pub record Walk (T : List ℕ) (f : ℕ → ℕ → Bool) (none out : Bool) (on : Bool → ℕ → Bool) : Type 0 where
  pub at_none : (n : ℕ) → f n 0 ≡ none
  pub at_out : (r : ℕ) → f 0 (suc r) ≡ out
  pub at_struct : (n r : ℕ) → f (suc n) (suc r) ≡ on (f n (base T r)) r

module _ {T : List ℕ} {f : ℕ → ℕ → Bool} {none out : Bool} {on : Bool → ℕ → Bool} (w : Walk T f none out on) {n l : ℕ} where
  pub walk_none : l ≡ 0 → none ≡ f n l
  walk_none e = sym (ap (f n) e ∙ w.at_none n)

  pub walk_out : (l ≡ 0 → ⊥) → n ≡ 0 → out ≡ f n l
  walk_out h e =
      let s : l ≡ suc (l - 1) = omega arith in
      sym (ap₂ f e s ∙ w.at_out (l - 1))

  pub walk-on : (l ≡ 0 → ⊥) → (n ≡ 0 → ⊥) → {b : Bool} {link : ℕ} → link ≡ base T (l - 1) → b ≡ f (n - 1) link → on b (l - 1) ≡ f n l
  walk-on h k {b} {link} e p =
      let s : l ≡ suc (l - 1) = omega arith in
      let m : n ≡ suc (n - 1) = omega arith in
      sym (ap₂ f m s ∙ w.at_struct (n - 1) (l - 1) ∙ ap (λ (t : Bool). on t (l - 1)) (ap (f (n - 1)) (sym e) ∙ sym p))

-- how many structs one struct is judged against, up a chain
abbrev pub structs_of : Against → ℕ
structs_of (Children r) = 0
structs_of (Members link) = chain_structs

-- where the members are found, a walk that joins what is told of each struct, which is what is asked of its own children, asks it of the members
module _ {T : List ℕ} {f : ℕ → ℕ → Bool} {start out : Bool} {told : ℕ → Bool} (ask : List ℕ → Bool) (join : Bool → Bool → Bool)
    (ask-none : ask [] ≡ start) (ask-append : (a b : List ℕ) → ask (a ++ b) ≡ join (ask a) (ask b)) (own : (r : ℕ) → told r ≡ ask (children T r)) where
  pub walk-members : Walk T f start out (λ b r. join b (told r)) → (n l : ℕ) (ms : List ℕ) → members T n l ≡ some ms → f n l ≡ ask ms
  unfolding members
  walk-members w zero zero ms e = let z : ms ≡ [] = cc in rw z (w.at_none 0 ∙ sym ask-none)
  walk-members w zero (suc r) ms e = none-not-some e
  walk-members w (suc n) zero ms e = let z : ms ≡ [] = cc in rw z (w.at_none (suc n) ∙ sym ask-none)
  walk-members w (suc n) (suc r) ms e = w.at_struct n r ∙ go (members T n (base T r)) refl e (walk-members w n (base T r))
    where
      go : (o : Option (List ℕ)) → members T n (base T r) ≡ o → after o (children T r) ≡ some ms
          → ((ns : List ℕ) → members T n (base T r) ≡ some ns → f n (base T r) ≡ ask ns) → join (f n (base T r)) (told r) ≡ ask ms
      go none p q k = none-not-some q
      go (some ns) p q k = let z : ms ≡ ns ++ children T r = cc in rw (z, k ns p, own r) (sym (ask-append ns (children T r)))

-- the chain ends exactly where there are members
module _ (T : List ℕ) where
  pub ends-walk : Walk T (chain_ends T) true false (λ b r. b)
  unfolding chain_ends
  ends-walk = record { at_none = elim [ zero ↦ refl | suc n ↦ refl ]; at_out = λ r. refl; at_struct = λ n r. refl }

  pub ends_is : (n l : ℕ) → chain_ends T n l ≡ is (members T n l) (λ _. true)
  unfolding chain_ends members
  ends_is zero zero = refl
  ends_is zero (suc r) = refl
  ends_is (suc n) zero = refl
  ends_is (suc n) (suc r) = ends_is n (base T r) ∙ go (members T n (base T r))
    where
      go : (o : Option (List ℕ)) → is o (λ _. true) ≡ is (after o (children T r)) (λ _. true)
      go none = refl
      go (some ms) = refl

-- names of children and of members
module _ (S T : List ℕ) where
  pub members_apart-walk : (others : Against) → Walk T (members_apart S T others) true true (λ b s. b && own_apart S T others s)
  unfolding members_apart every_struct
  members_apart-walk others = record { at_none = elim [ zero ↦ refl | suc n ↦ refl ]; at_out = λ r. refl; at_struct = λ n r. refl }

  -- where the members of both sides are found
  pub children_apart-is : (r n l : ℕ) (ms : List ℕ) → members T n l ≡ some ms → members_apart S T (Children r) n l ≡ no_clash (names_of S T ms) (names_of S T (children T r))
  children_apart-is r n l ms e =
      let clear : List ℕ → Bool = λ x. fresh x (names_of S T (children T r)) in
      walk-members (λ rs. all clear (names_of S T rs)) ◌&&◌ refl (all-map-append (name_of S T) clear) (λ s. refl) (members_apart-walk (Children r)) n l ms e

  no_clash-append : (xs : List (List ℕ)) (a b : List ℕ) → no_clash xs (names_of S T (a ++ b)) ≡ no_clash xs (names_of S T a) && no_clash xs (names_of S T b)
  no_clash-append xs a b =
      all_same (λ x. fresh x (names_of S T (a ++ b))) (λ x. fresh x (names_of S T a) && fresh x (names_of S T b)) xs (λ x. all-map-append (name_of S T) (λ y. not (clash x y)) a b)
      ∙ all_both (λ x. fresh x (names_of S T a)) (λ x. fresh x (names_of S T b)) xs

  pub members_apart-is : (other n l : ℕ) (ms bs : List ℕ) → members T chain_structs other ≡ some ms → members T n l ≡ some bs
      → members_apart S T (Members other) n l ≡ no_clash (names_of S T ms) (names_of S T bs)
  unfolding members_apart
  members_apart-is other n l ms bs e q =
      walk-members (λ rs. no_clash (names_of S T ms) (names_of S T rs)) ◌&&◌ (all_true (λ x. true) (names_of S T ms) (λ x. refl)) (no_clash-append (names_of S T ms))
      (λ s. children_apart-is s chain_structs other ms e) (members_apart-walk (Members other)) n l bs q

  -- one struct of a walk, by what it is judged against
  module _ (s : ℕ) {others : Against} {v : Bool} where
    pub own-children : {r : ℕ} → others ≡ Children r → v ≡ lists_apart S T s r → v ≡ own_apart S T others s
    own-children p e = rw p e

    pub own-members : {link : ℕ} → others ≡ Members link → v ≡ members_apart S T (Children s) chain_structs link → v ≡ own_apart S T others s
    unfolding members_apart
    own-members p e = rw p e

  -- rule 8 of a row: the chain of its base ends, and no child repeats a member of it
  pub chain_fits-is : (r : ℕ) → chain_fits S T r ≡ chain_ends T base_structs (base T r) && members_apart S T (Children r) base_structs (base T r)
  chain_fits-is r =
      sym (rw (ends_is T base_structs (base T r))
      (is_guard (members T base_structs (base T r)) _ (members_apart S T (Children r) base_structs (base T r)) (λ ms e. children_apart-is r base_structs (base T r) ms e)))

  module _ (r : ℕ) {b : ℕ} (p : b ≡ base T r) where
    pub chain-fails : chain_ends T base_structs b ≡ false → false ≡ chain_fits S T r
    chain-fails e = sym (chain_fits-is r ∙ rw (← p, e))

    pub chain-holds : chain_ends T base_structs b ≡ true → {a : Bool} → a ≡ members_apart S T (Children r) base_structs b → a ≡ chain_fits S T r
    chain-holds e f = f ∙ sym (chain_fits-is r ∙ rw (← p, e))

-- members by row
module _ (T : List ℕ) (m : ℕ) where
  pub is_member-walk : Walk T (λ n l. is_member T n l m) false false (λ b r. b || any (eqb m) (children T r))
  unfolding is_member
  is_member-walk = record { at_none = elim [ zero ↦ refl | suc n ↦ refl ]; at_out = λ r. refl; at_struct = λ n r. refl }

  pub is_member-is : (n l : ℕ) (ms : List ℕ) → members T n l ≡ some ms → is_member T n l m ≡ any (eqb m) ms
  is_member-is n l ms e = walk-members (any (eqb m)) ◌||◌ refl (any_append (eqb m)) (λ r. refl) is_member-walk n l ms e
