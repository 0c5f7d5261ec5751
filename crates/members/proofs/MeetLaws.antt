-- Every mandatory member is there exactly when as many fields mean a mandatory member as there are mandatory members.
-- The idea: by the members in turn. One key at most means a member, and a key means one member at most; so a member adds one to both counts, or one is missing for good.
use Prim.Native.Nat.{ℕ, suc, ◌+◌, ◌≤◌}
use mathlib.Core.Path.{◌≡◌, refl, sym, ap, ◌∙◌}
use mathlib.Core.Bool.{Bool, true, false, not, cond, ◌&&◌, ◌||◌}
use mathlib.Core.List.{List, [], ◌∷◌}
use native.Mathlib.Omega.{arith}
use lib.Dec.{eqb, eqb-suc-suc}
use borrow.Author.Tests.{ne_eqb, eqb-true, not-false}
use Rattle.grammar.specs.Notation.{same, all, apart}
use Rattle.grammar.specs.Tree.{Fields}
use Rattle.grammar.specs.Tree.Fields.{no_fields, field}
use Rattle.grammar.specs.Keys.{keys_of}
use Rattle.rules.specs.Values.{any_of}
use Rattle.rules.specs.Rows.{optional, name_of}
use Rattle.rules.specs.Rules.{names_of}
use Rattle.rules.specs.SchemaTable.{member_in}
use Rattle.rules.specs.Serving.ReadingOf.{mandatory_there}
use Rattle.rules.proofs.Lists.{same_true}
use Rattle.lookups.proofs.KeyCounts.{first-apart, differs}
use Rattle.rows.proofs.ListLaws.{same-sym}
use Rattle.children.specs.Counts.{mandatory_in}
use Rattle.children.proofs.CountLaws.{count-more}
use Rattle.members.specs.Mandatory.{met_by, met}
use Rattle.members.proofs.MemberLaws.{one_of}

module _ (S T : List ℕ) where
  -- a key that differs from every name means no member
  unmeant : (ms : List ℕ) (key : List ℕ) → all (λ y. not (same key y)) (names_of S T ms) ≡ true → member_in S T key ms ≡ 0
  unmeant ms key h = eqb-true (member_in S T key ms) 0 (not-false (eqb (member_in S T key ms) 0) (one_of S T key ms ∙ differs (names_of S T ms) key h))

  -- no member, no field that means one
  met-none : (fs : Fields) → met S T [] fs ≡ 0
  unfolding met met_by
  met-none no_fields = refl
  met-none (field a e key j fs) = rw (met-none fs)

  -- one member more: a key means it, or none does
  met-more : (m : ℕ) (ms : List ℕ) → all (λ y. not (same (name_of S T m) y)) (names_of S T ms) ≡ true
      → (fs : Fields) → apart same (keys_of fs) ≡ true
      → met S T (m ∷ ms) fs ≡ cond (any_of (keys_of fs) (name_of S T m)) (mandatory_in T (m ∷ [])) 0 + met S T ms fs
  unfolding met met_by
  met-more m ms h no_fields d = refl
  met-more m ms h (field a e key j fs) d = rw (same-sym (name_of S T m) key)
      (go (same key (name_of S T m)) refl (met-more m ms h fs (first-apart key (keys_of fs) d).1))
    where
      go : (b : Bool) → same key (name_of S T m) ≡ b
          → met S T (m ∷ ms) fs ≡ cond (any_of (keys_of fs) (name_of S T m)) (mandatory_in T (m ∷ [])) 0 + met S T ms fs
          → met_by T (cond b (suc m) (member_in S T key ms)) + met S T (m ∷ ms) fs
          ≡ cond (b || any_of (keys_of fs) (name_of S T m)) (mandatory_in T (m ∷ [])) 0 + (met_by T (member_in S T key ms) + met S T ms fs)
      go true q r =
          let n : name_of S T m ≡ key = sym (same_true key (name_of S T m) q) in
          let x : member_in S T key ms ≡ 0 = unmeant ms key (rw n at h) in
          let y : any_of (keys_of fs) (name_of S T m) ≡ false = ap (any_of (keys_of fs)) n ∙ differs (keys_of fs) key (first-apart key (keys_of fs) d).0 in
          rw x (let z : met S T (m ∷ ms) fs ≡ 0 + met S T ms fs = rw y at r in omega arith)
      go false q r = omega arith

  module _ (fs : Fields) (d : apart same (keys_of fs) ≡ true) where
    -- no more are met than there are
    met-few : (ms : List ℕ) → apart same (names_of S T ms) ≡ true → met S T ms fs ≤ mandatory_in T ms
    met-few [] h = omega (arith, met-none fs)
    met-few (m ∷ ms) h =
        let p = first-apart (name_of S T m) (names_of S T ms) h in
        omega (arith, met-more m ms p.0 fs d, count-more T m ms, met-few ms p.1, part (any_of (keys_of fs) (name_of S T m)))
      where
        part : (t : Bool) → cond t (mandatory_in T (m ∷ [])) 0 ≤ mandatory_in T (m ∷ [])
        part true = omega arith
        part false = omega arith

    pub met_all : (ms : List ℕ) → apart same (names_of S T ms) ≡ true → eqb (met S T ms fs) (mandatory_in T ms) ≡ mandatory_there S T ms fs
    unfolding mandatory_in
    met_all [] h = rw (met-none fs)
    met_all (m ∷ ms) h =
        let p = first-apart (name_of S T m) (names_of S T ms) h in
        rw (met-more m ms p.0 fs d) (go (any_of (keys_of fs) (name_of S T m)) (eqb (optional T m) 0) (met-few ms p.1) (met_all ms p.1))
      where
        go : (t b : Bool) {n k : ℕ} {u : Bool} → n ≤ k → eqb n k ≡ u → eqb (cond t (cond b 1 0) 0 + n) (cond b (suc k) k) ≡ (not b || t) && u
        go true true {n} {k} h r = let z : 1 + n ≡ suc n = omega arith in ap (λ x. eqb x (suc k)) z ∙ eqb-suc-suc n k ∙ r
        go true false {n} {k} h r = let z : 0 + n ≡ n = omega arith in ap (λ x. eqb x k) z ∙ r
        go false true {n} {k} h r = ne_eqb (0 + n) (suc k) (λ (z : 0 + n ≡ suc k). omega arith)
        go false false {n} {k} h r = let z : 0 + n ≡ n = omega arith in ap (λ x. eqb x k) z ∙ r
