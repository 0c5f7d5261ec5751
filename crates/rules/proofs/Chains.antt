-- What running out of structs means: a link's members are found exactly where its chain of bases ends after at most so many structs; so a cycle has none.
-- By the number of structs left, one base link at a time.
use Prim.Native.Nat.{ℕ, zero, suc, ◌≤◌}
use native.Mathlib.Omega.{arith}
use mathlib.Core.Path.{◌≡◌, refl}
use mathlib.Core.Bool.{true}
use mathlib.Core.List.{List, ◌++◌}
use mathlib.Core.Option.{Option, none, some}
use Rattle.grammar.specs.Limits.{chain_structs}
use Rattle.rules.specs.Rows.{base, children, members, after}
use Rattle.rules.specs.Rules.{base_structs, chain_fits, names_of, no_clash}
use Rattle.rules.proofs.Lists.{is_true}

module _ (T : List ℕ) where
  -- the chain of bases from a link on has so many structs and then ends
  pub data Chain : ℕ → ℕ → Type 0 where
    ends : Chain 0 0
    goes_on : {r n : ℕ} → Chain (base T r) n → Chain (suc r) (suc n)

  -- the chain of bases from a link on ends, after at most so many structs
  pub record ChainWithin (most link : ℕ) : Type 0 where
    pub structs : ℕ
    pub chain : Chain link structs
    pub few : structs ≤ most

  pub chain_of_members : (n link : ℕ) (ms : List ℕ) → members T n link ≡ some ms → ChainWithin n link
  unfolding members
  chain_of_members zero zero ms e = record { structs = 0; chain = ends; few = omega arith }
  chain_of_members zero (suc r) ms e = let z : ◌≡◌ {A = ℕ} 0 1 = cc in absurd (omega arith)
  chain_of_members (suc n) zero ms e = record { structs = 0; chain = ends; few = omega arith }
  chain_of_members (suc n) (suc r) ms e = go (members T n (base T r)) refl e (chain_of_members n (base T r))
    where
      go : (o : Option (List ℕ)) → members T n (base T r) ≡ o → after o (children T r) ≡ some ms
          → ((ns : List ℕ) → members T n (base T r) ≡ some ns → ChainWithin n (base T r)) → ChainWithin (suc n) (suc r)
      go none p q h = let z : ◌≡◌ {A = ℕ} 0 1 = cc in absurd (omega arith)
      go (some ns) p q h = let z = h ns p in record { structs = suc z.structs; chain = goes_on z.chain; few = omega (arith, z.few) }

  pub members_of_chain : (n link m : ℕ) → Chain link m → m ≤ n → (ms : List ℕ) × (members T n link ≡ some ms)
  unfolding members
  members_of_chain zero link m ends h = (List.[], refl)
  members_of_chain (suc n) link m ends h = (List.[], refl)
  members_of_chain zero link m (goes_on c) h = absurd (omega arith)
  members_of_chain (suc n) link m (goes_on {r} c) h = let z = members_of_chain n (base T r) _ c (omega arith) in (z.0 ++ children T r, rw z.1)

  -- a struct whose chain fits has at most 16 structs on it, itself counted
  pub chain-within : (S : List ℕ) (r : ℕ) → chain_fits S T r ≡ true → ChainWithin chain_structs (suc r)
  chain-within S r e =
      let z = is_true (members T base_structs (base T r)) (λ inherited. no_clash (names_of S T inherited) (names_of S T (children T r))) e in
      let y = chain_of_members base_structs (base T r) z.0 z.1 in
      record { structs = suc y.structs; chain = goes_on y.chain; few = omega (arith, y.few) }
