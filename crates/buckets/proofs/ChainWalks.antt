-- A walk along a chain of items for what f says of them, where P holds of them: the items left decide what all of them do.
use Prim.Native.Nat.{ℕ, ◌-◌, ◌≤◌, ◌<◌}
use native.Mathlib.Omega.{arith}
use mathlib.Core.Path.{◌≡◌, refl, sym, ap, ◌∙◌, subst}
use mathlib.Core.List.{List, [], ◌∷◌}
use lib.ListN.{length, get_or}
use Rattle.buckets.specs.Buckets.{Chain}
use Rattle.buckets.proofs.BucketLaws.{chain-end, chain-step}

module _ {A B : Type 0} (place : A → ℕ) (P : List A → Type 0) (f : List A → B) (links : List ℕ) where
  -- the items from the word x on are left, no more than n
  pub record Rest (ys : List A) (x n : ℕ) : Type 0 where
    pub rest : List A
    pub chain : Chain place links x rest
    pub short : length rest ≤ n
    pub holds : P rest
    pub same_so : f ys ≡ f rest

  pub record Walk (head most x n : ℕ) : Type 0 where
    pub told : (ys : List A) → Chain place links head ys → length ys ≤ most → P ys → Rest ys x n

  -- f says that of the items that follow the word `head`
  pub record Says (head most : ℕ) (v : B) : Type 0 where
    pub told : (ys : List A) → Chain place links head ys → length ys ≤ most → P ys → f ys ≡ v

module _ {A B : Type 0} {place : A → ℕ} {P : List A → Type 0} {f : List A → B} {links : List ℕ} where
  pub walk_start : {head most : ℕ} → Walk place P f links head most head most
  walk_start = record { told = λ ys c n p. record { rest = ys; chain = c; short = n; holds = p; same_so = refl } }

  module _ {head most x n : ℕ} (w : Walk place P f links head most x n) where
    pub walk_hit : 0 < x → (v : B) → ((y : A) (ys : List A) → place y ≡ x - 1 → P (y ∷ ys) → f (y ∷ ys) ≡ v) → Says place P f links head most v
    walk_hit h v e = record {
      told = λ ys c m p.
          let z = w.told ys c m p in
          let y = chain-step place links x z.rest h z.chain in
          z.same_so ∙ ap f y.items ∙ e y.item y.rest y.at (subst P y.items z.holds);
    }

    pub walk-on : {y : ℕ} → 0 < x → y ≡ get_or links (x - 1) 0 → ((y : A) (ys : List A) → place y ≡ x - 1 → P (y ∷ ys) → P ys × (f (y ∷ ys) ≡ f ys)) → Walk place P f links head most y (n - 1)
    walk-on h q e = record {
      told = λ ys c m p.
          let z = w.told ys c m p in
          let y = chain-step place links x z.rest h z.chain in
          let t = e y.item y.rest y.at (subst P y.items z.holds) in
          record {
            rest = y.rest;
            chain = subst (λ (k : ℕ). Chain place links k y.rest) (sym q) y.after;
            short = omega (arith, z.short, ap length y.items);
            holds = t.0;
            same_so = z.same_so ∙ ap f y.items ∙ t.1;
          };
    }

    pub walk_end : x ≡ 0 → Says place P f links head most (f [])
    walk_end e = record {
      told = λ ys c m p.
          let z = w.told ys c m p in
          z.same_so ∙ ap f (chain-end place links z.rest (subst (λ (k : ℕ). Chain place links k z.rest) e z.chain));
    }

    pub walk_out : n ≤ 0 → Says place P f links head most (f [])
    walk_out h = record { told = λ ys c m p. let z = w.told ys c m p in z.same_so ∙ ap f (nothing z.rest (omega (arith, z.short))) }
      where
        nothing : (ys : List A) → length ys ≤ 0 → ys ≡ []
        nothing [] g = refl
        nothing (y ∷ ys) g = absurd (omega arith)
