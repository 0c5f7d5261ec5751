-- What the reading function looks up is what the rules name: a member by its key, a branch by its name, an alternative by its kind, the mandatory members.
-- The idea: each lookup goes by the list; the first that fits is the one that is meant where no other of the list fits.
use Prim.Native.Nat.{ℕ, suc}
use mathlib.Core.Path.{◌≡◌, refl, sym, ap, ◌∙◌}
use mathlib.Core.Bool.{Bool, true, false, not, cond, ◌||◌}
use mathlib.Core.Logic.{◌⊎◌, inl, inr, ⊎_elim}
use mathlib.Core.List.Memᴰ
use mathlib.Core.List.{List, [], ◌∷◌, Memᴰ}
use mathlib.Core.Option.{some}
use native.Mathlib.Omega.{arith}
use lib.Dec.{eqb}
use borrow.Author.Tests.{eq-eqb, eqb-true}
use Rattle.grammar.specs.Notation.{same}
use Rattle.grammar.specs.Tree.{Fields, Kind}
use Rattle.grammar.specs.Keys.{keys_of}
use Rattle.rules.specs.Types.{column, same_kind}
use Rattle.rules.specs.Values.{any_of}
use Rattle.rules.specs.Rows.{type_ref, optional, branch_struct, name_of, type_kind}
use Rattle.rules.specs.Rules.{is}
use Rattle.rules.specs.SchemaTable.{member_in}
use Rattle.rules.specs.Readings.{Mandatory}
use Rattle.rules.specs.Serving.ReadingOf.{of_kind, branch_link, mandatory_there}
use Rattle.rules.proofs.Lists.{clash, none-not-some, or_implies, same_true, same-is, all_true, all_of, is_true, key-there}
use Rattle.rules.proofs.Grid.{same_kind_lem}

-- x is the only element of l that has what P says
abbrev pub Only : (ℕ → Type 0) → List ℕ → ℕ → Type 0
Only P l x = (y : ℕ) → Memᴰ y l → P y → y ≡ x

module _ (S T : List ℕ) where
  -- members
  pub member-found : (key ms : List ℕ) (x : ℕ) → member_in S T key ms ≡ suc x → Memᴰ x ms × (name_of S T x ≡ key)
  member-found key [] x h = absurd (omega arith)
  member-found key (m ∷ ms) x h = go (same key (name_of S T m)) refl h (member-found key ms x)
    where
      go : (b : Bool) → same key (name_of S T m) ≡ b → cond b (suc m) (member_in S T key ms) ≡ suc x
          → (member_in S T key ms ≡ suc x → Memᴰ x ms × (name_of S T x ≡ key)) → Memᴰ x (m ∷ ms) × (name_of S T x ≡ key)
      go true e q r =
          let z : x ≡ m = omega arith in
          (Memᴰ.head z, ap (name_of S T) z ∙ sym (same_true key (name_of S T m) e))
      go false e q r = let u = r q in (Memᴰ.tail u.0, u.1)

  pub member-finds : (key ms : List ℕ) (x : ℕ) → Only (λ y. name_of S T y ≡ key) ms x → Memᴰ x ms → name_of S T x ≡ key → member_in S T key ms ≡ suc x
  member-finds key [] x d p e = elim p [ ]
  member-finds key (m ∷ ms) x d p e =
      go (same key (name_of S T m)) refl (Memᴰ.cases_cons p) (λ q. member-finds key ms x (λ y i. d y (Memᴰ.tail i)) q e)
    where
      go : (b : Bool) → same key (name_of S T m) ≡ b → (x ≡ m) ⊎ Memᴰ x ms
          → (Memᴰ x ms → member_in S T key ms ≡ suc x) → cond b (suc m) (member_in S T key ms) ≡ suc x
      go true q i r = ap suc (d m (Memᴰ.head refl) (sym (same_true key (name_of S T m) q)))
      go false q (inl i) r = absurd (clash (same-is key (name_of S T m) (sym e ∙ ap (name_of S T) i)) q)
      go false q (inr i) r = r i

  -- branches: l is the link of the one that is named cs, or 0 and none is
  abbrev pub BranchAt : List ℕ → List ℕ → ℕ → Type 0
  BranchAt cs bs l = ((b : ℕ) × Memᴰ b bs × (name_of S T b ≡ cs) × (l ≡ branch_struct T b)) ⊎ (((b : ℕ) → Memᴰ b bs → name_of S T b ≡ cs → ⊥) × (l ≡ 0))

  pub branch-found : (cs bs : List ℕ) → BranchAt cs bs (branch_link S T cs bs)
  branch-found cs [] = inr (λ b m. elim m [ ], refl)
  branch-found cs (c ∷ bs) = go (same cs (name_of S T c)) refl (branch-found cs bs)
    where
      go : (x : Bool) → same cs (name_of S T c) ≡ x → BranchAt cs bs (branch_link S T cs bs) → BranchAt cs (c ∷ bs) (cond x (branch_struct T c) (branch_link S T cs bs))
      go true e r = inl (c, Memᴰ.head refl, sym (same_true cs (name_of S T c) e), refl)
      go false e (inl r) = inl (r.0, Memᴰ.tail r.1, r.2, r.3)
      go false e (inr r) =
          inr (λ b m p. ⊎_elim (λ (z : b ≡ c). clash (same-is cs (name_of S T c) (sym p ∙ ap (name_of S T) z)) e) (λ m'. r.0 b m' p) (Memᴰ.cases_cons m), r.1)

  pub branch-finds : (cs bs : List ℕ) (x : ℕ) → Only (λ y. name_of S T y ≡ cs) bs x → Memᴰ x bs → name_of S T x ≡ cs → branch_link S T cs bs ≡ branch_struct T x
  branch-finds cs bs x d p e = ⊎_elim (λ r. r.3 ∙ ap (branch_struct T) (d r.0 r.1 r.2)) (λ r. absurd (r.0 x p e)) (branch-found cs bs)

  pub branch_missing : (cs bs : List ℕ) → ((b : ℕ) → Memᴰ b bs → name_of S T b ≡ cs → ⊥) → branch_link S T cs bs ≡ 0
  branch_missing cs bs n = ⊎_elim (λ r. absurd (n r.0 r.1 r.2)) (λ r. r.1) (branch-found cs bs)

  -- mandatory members
  pub mandatory_true : (ms : List ℕ) (fs : Fields) → mandatory_there S T ms fs ≡ true → Mandatory S T ms fs
  mandatory_true ms fs h m p e =
      (key-there fs (name_of S T m)).0
      (or_implies (eqb (optional T m) 0) (any_of (keys_of fs) (name_of S T m))
      (all_true (λ x. not (eqb (optional T x) 0) || any_of (keys_of fs) (name_of S T x)) ms h m p) (eq-eqb (optional T m) 0 e))

  pub mandatory_of : (ms : List ℕ) (fs : Fields) → Mandatory S T ms fs → mandatory_there S T ms fs ≡ true
  mandatory_of ms fs h = all_of (λ x. not (eqb (optional T x) 0) || any_of (keys_of fs) (name_of S T x)) ms (λ m p. go m p (eqb (optional T m) 0) refl)
    where
      go : (m : ℕ) → Memᴰ m ms → (b : Bool) → eqb (optional T m) 0 ≡ b → not b || any_of (keys_of fs) (name_of S T m) ≡ true
      go m p true e = (key-there fs (name_of S T m)).1 (h m p (eqb-true (optional T m) 0 e))
      go m p false e = refl

-- alternatives
module _ (T : List ℕ) (k : Kind) where
  pub kind-found : (cs : List ℕ) (u : ℕ) → of_kind T k cs ≡ some u → (c : ℕ) × Memᴰ c cs × (type_ref T c ≡ u) × (type_kind T u ≡ some k)
  kind-found [] u h = absurd (none-not-some h)
  kind-found (c ∷ cs) u h = go (is (type_kind T (type_ref T c)) (λ j. same_kind j k)) refl h (kind-found cs u)
    where
      go : (b : Bool) → is (type_kind T (type_ref T c)) (λ j. same_kind j k) ≡ b → cond b (some (type_ref T c)) (of_kind T k cs) ≡ some u
          → (of_kind T k cs ≡ some u → (d : ℕ) × Memᴰ d cs × (type_ref T d ≡ u) × (type_kind T u ≡ some k))
          → (d : ℕ) × Memᴰ d (c ∷ cs) × (type_ref T d ≡ u) × (type_kind T u ≡ some k)
      go true e q r =
          let i = is_true (type_kind T (type_ref T c)) (λ j. same_kind j k) e in
          let z : type_ref T c ≡ u = cc in
          (c, Memᴰ.head refl, z, ap (type_kind T) (sym z) ∙ i.1 ∙ ap some (same_kind_lem i.0 k i.2))
      go false e q r = let i = r q in (i.0, Memᴰ.tail i.1, i.2, i.3)

  pub kind-finds : (cs : List ℕ) (x : ℕ) → Only (λ y. type_kind T (type_ref T y) ≡ some k) cs x → Memᴰ x cs
      → type_kind T (type_ref T x) ≡ some k → of_kind T k cs ≡ some (type_ref T x)
  kind-finds [] x d p e = elim p [ ]
  kind-finds (c ∷ cs) x d p e =
      go (is (type_kind T (type_ref T c)) (λ j. same_kind j k)) refl (Memᴰ.cases_cons p) (λ q. kind-finds cs x (λ y i. d y (Memᴰ.tail i)) q e)
    where
      go : (b : Bool) → is (type_kind T (type_ref T c)) (λ j. same_kind j k) ≡ b → (x ≡ c) ⊎ Memᴰ x cs
          → (Memᴰ x cs → of_kind T k cs ≡ some (type_ref T x))
          → cond b (some (type_ref T c)) (of_kind T k cs) ≡ some (type_ref T x)
      go true q i r =
          let o = is_true (type_kind T (type_ref T c)) (λ j. same_kind j k) q in
          ap (λ y. some (type_ref T y)) (d c (Memᴰ.head refl) (o.1 ∙ ap some (same_kind_lem o.0 k o.2)))
      go false q (inl i) r =
          let z : type_kind T (type_ref T c) ≡ some k = ap (λ y. type_kind T (type_ref T y)) (sym i) ∙ e in
          absurd (clash (rw z (eq-eqb (column k) (column k) refl)) q)
      go false q (inr i) r = r i
