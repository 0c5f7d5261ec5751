-- What `all`, `any` and `find` say of an iterator that is seen as the list of what it has left, where the closure computes f.
use Rattle.std.proofs.Common.{◌≡◌, Bool, true, false, cond, List, [], ◌∷◌, Option, Some, None, sym, ◌∙◌, subst}
use Rattle.std.specs.Fn.{Called, CalledAt}
use Rattle.std.specs.List.{FoldsTo}
use Rattle.std.specs.Option.{MatchOption, IfSome}
use denote.Ref.{Bor}
use Rattle.std.specs.Iterator.{YieldsFirst, Yields, ChecksAll, ChecksAny, FindsItem}
use denote.Param.Members.{Mut}
use Rattle.grammar.specs.Notation.{all}
use Rattle.rules.specs.Rules.{any}

-- a call gave the first of what was left
abbrev pub first_of : {A : Type 0} → List A → Option A → List A → Type 0
first_of {A} = YieldsFirst {A = A} (λ rest. rest)

module _ {A F : Type 0} (g : Mut F (A × Unit {0}) Bool) (f : A → Bool) where
  -- the closure computes f, and stays as it is
  abbrev pub Computes : F → Type 0
  Computes k = (x : A) (b : Bool) (k' : F) → Called g k (x, tt) b k' → (k' ≡ k) × (b ≡ f x)

  pub all-run : {s u : List A} {k : F} {r : Bool} → ChecksAll first_of g s k r u → Computes k → r ≡ all f s
  all-run {s} {u} {k} {r} h c = go h.0 s k h.1 h.2 h.3.0 h.3.1 h.3.2 h.4 h.5 c
    where
      go : (xs s : List A) (k : F) (o : Option A) (k' : F) (t : List A) → Yields first_of s xs t → first_of t o u → FoldsTo (λ p x q. Called g p (x, tt) true q) k xs k'
          → MatchOption o (r ≡ true) (λ x. (r ≡ false) × ((j : F) × Called g k' (x, tt) false j)) → Computes k → r ≡ all f s
      go [] s k None k' t y z w m c = let e : s ≡ [] = y ∙ z.0 in rw e m
      go [] s k (Some x) k' t y z w m c =
          let e : s ≡ x ∷ u = y ∙ z in
          let p : false ≡ f x = (c x false m.1.0 (subst (λ (q : F). Called g q (x, tt) false m.1.0) (sym w) m.1.1)).1 in
          rw (e, ← p) m.0
      go (x ∷ xs) s k o k' t y z w m c =
          let q = c x true w.0 w.1 in
          let i = go xs y.0 w.0 o k' t y.2 z w.2 m (subst Computes (sym q.0) c) in
          rw (y.1, ← q.1) i

  pub any-run : {s u : List A} {k : F} {r : Bool} → ChecksAny first_of g s k r u → Computes k → r ≡ any f s
  any-run {s} {u} {k} {r} h c = go h.0 s k h.1 h.2 h.3.0 h.3.1 h.3.2 h.4 h.5 c
    where
      go : (xs s : List A) (k : F) (o : Option A) (k' : F) (t : List A) → Yields first_of s xs t → first_of t o u → FoldsTo (λ p x q. Called g p (x, tt) false q) k xs k'
          → MatchOption o (r ≡ false) (λ x. (r ≡ true) × ((j : F) × Called g k' (x, tt) true j)) → Computes k → r ≡ any f s
      go [] s k None k' t y z w m c = let e : s ≡ [] = y ∙ z.0 in rw e m
      go [] s k (Some x) k' t y z w m c =
          let e : s ≡ x ∷ u = y ∙ z in
          let p : true ≡ f x = (c x true m.1.0 (subst (λ (q : F). Called g q (x, tt) true m.1.0) (sym w) m.1.1)).1 in
          rw (e, ← p) m.0
      go (x ∷ xs) s k o k' t y z w m c =
          let q = c x false w.0 w.1 in
          let i = go xs y.0 w.0 o k' t y.2 z w.2 m (subst Computes (sym q.0) c) in
          rw (y.1, ← q.1) i

-- the first element that f holds of
abbrev pub first_that : {A : Type 0} → (A → Bool) → List A → Option A
first_that f [] = None
first_that f (x ∷ xs) = cond (f x) (Some x) (first_that f xs)

module _ {A F : Type 0} (g : Mut F (Bor A × Unit {0}) Bool) (f : A → Bool) where
  abbrev pub ComputesAt : F → Type 0
  ComputesAt k = (x : A) (b : Bool) (k' : F) → CalledAt g k x b k' → (k' ≡ k) × (b ≡ f x)

  pub find-run : {s : List A} (u : List A) {k : F} {r : Option A} → FindsItem first_of g s k r u → ComputesAt k → r ≡ first_that f s
  find-run {s} u {k} {r} h c = go h.0 s k h.1 h.2.0 r h.2.1 h.2.2 h.3 h.4 c
    where
      go : (xs s : List A) (k : F) (k' : F) (t : List A) (r : Option A) → Yields first_of s xs t → first_of t r u → FoldsTo (λ p x q. CalledAt g p x false q) k xs k'
          → IfSome r (λ x. (j : F) × CalledAt g k' x true j) → ComputesAt k → r ≡ first_that f s
      go [] s k k' t None y z w m c = let e : s ≡ [] = y ∙ z.0 in rw e
      go [] s k k' t (Some x) y z w m c =
          let e : s ≡ x ∷ u = y ∙ z in
          let p : true ≡ f x = (c x true m.0 (subst (λ (q : F). CalledAt g q x true m.0) (sym w) m.1)).1 in
          rw (e, ← p)
      go (x ∷ xs) s k k' t r y z w m c =
          let q = c x false w.0 w.1 in
          let i = go xs y.0 w.0 k' t r y.2 z w.2 m (subst ComputesAt (sym q.0) c) in
          rw (y.1, ← q.1) i
