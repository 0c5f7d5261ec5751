-- No key but given names: with no key repeated and no name, that is a count, as many fields as names that are keys.
-- The idea: a new key adds one to the names found exactly when it is one of them, so the two counts stay equal as long as every key is.
use Prim.Native.Nat.{ℕ, suc, ◌+◌, ◌≤◌, ◌<◌}
use native.Mathlib.Numerals.{add-one}
use native.Mathlib.Omega.{arith}
use mathlib.Core.Path.{◌≡◌, refl, sym, ap, ap₂, ◌∙◌, subst}
use mathlib.Core.Bool.{Bool, true, false, not, cond, ◌&&◌, ◌||◌}
use mathlib.Core.List.{List, [], ◌∷◌}
use mathlib.Core.Option.{Option, none, some}
use lib.Dec.{eqb, eqb-suc-suc}
use lib.ListN.{length}
use borrow.Author.Tests.{ne_eqb}
use Rattle.std.specs.Prelude.{Some, None, is_some, count_by}
use Rattle.std.specs.Prelude as Std
use Rattle.std.proofs.lemmas.List.Sums.{sum_by-cons}
use Rattle.grammar.specs.Notation.{same, all, apart}
use Rattle.grammar.specs.Tree.{Json, Fields}
use Rattle.grammar.specs.Tree.Fields.{no_fields, field}
use Rattle.grammar.specs.Keys.{keys_of}
use Rattle.grammar.specs.Serving.Machine.{Dialect}
use Rattle.grammar.proofs.Booleans.{both}
use Rattle.strings.specs.declared.dialects.Dialect as Dialects
use Rattle.strings.specs.Strings.{grammar_of}
use Rattle.rules.specs.Values.{value_at, any_of}
use Rattle.rules.proofs.Lists.{same_true, same_refl, all_true, of_not, any_of-true, key-there, clash}
use Rattle.rules.proofs.First.{decided}
use Rattle.text.specs.Nodes.{next, HoldsFields}
use Rattle.text.proofs.KeyLaws.{no_keys}
use Rattle.lookups.specs.Lookups.{ValueFound, CountsFields, NoOtherKeys, FindsEach, NoOthers}
use Rattle.lookups.specs.Lookups.FindsEach.{nothing, ◌and◌}
use Rattle.lookups.proofs.FieldLaws.{first_field}

-- of names apart the first differs from the rest, and the rest are apart
pub first-apart : (x : List ℕ) (l : List (List ℕ)) → apart same (x ∷ l) ≡ true → (all (λ y. not (same x y)) l ≡ true) × (apart same l ≡ true)
first-apart x l = both (all (λ y. not (same x y)) l) (apart same l)

-- what differs from all of a list is none of it
pub differs : (l : List (List ℕ)) (k : List ℕ) → all (λ y. not (same k y)) l ≡ true → any_of l k ≡ false
differs l k h = decided (any_of l k) (λ t. of_not (same k k) (all_true (λ y. not (same k y)) l h k (any_of-true l k t)) (same_refl k))

-- how many of these names are keys
abbrev present : Option Json → ℕ
present none = 0
present (some j) = 1

unfoldable pub keys_found : List (List ℕ) → Fields → ℕ
keys_found [] fs = 0
keys_found (name ∷ names) fs = present (value_at name fs) + keys_found names fs

no_value : (fs : Fields) (key : List ℕ) → all (λ y. not (same key y)) (keys_of fs) ≡ true → value_at key fs ≡ none
no_value fs key h = go (value_at key fs) refl
  where
    go : (o : Option Json) → value_at key fs ≡ o → o ≡ none
    go none e = refl
    go (some j) e = clash ((key-there fs key).1 (j, e)) (differs (keys_of fs) key h)

none_found : (names : List (List ℕ)) → keys_found names no_fields ≡ 0
unfolding keys_found
none_found [] = refl
none_found (name ∷ names) = rw (none_found names) refl

-- a key that was not there yet
module _ (a e : ℕ) (key : List ℕ) (j : Json) (fs : Fields) (h : all (λ y. not (same key y)) (keys_of fs) ≡ true) where
  key_more : (names : List (List ℕ)) → apart same names ≡ true → keys_found names (field a e key j fs) ≡ cond (any_of names key) 1 0 + keys_found names fs
  unfolding keys_found
  key_more [] d = refl
  key_more (name ∷ names) d = let p = first-apart name names d in go (same key name) refl (key_more names p.1) p.0
    where
      go : (b : Bool) → same key name ≡ b → keys_found names (field a e key j fs) ≡ cond (any_of names key) 1 0 + keys_found names fs → all (λ y. not (same name y)) names ≡ true
          → present (cond b (some j) (value_at name fs)) + keys_found names (field a e key j fs) ≡ cond (b || any_of names key) 1 0 + (present (value_at name fs) + keys_found names fs)
      go true q r f =
          let n : name ≡ key = sym (same_true key name q) in
          let x : any_of names key ≡ false = differs names key (rw n at f) in
          let y : value_at name fs ≡ none = ap (λ (k : List ℕ). value_at k fs) n ∙ no_value fs key h in
          let z : keys_found names (field a e key j fs) ≡ 0 + keys_found names fs = rw x at r in
          rw y (omega arith)
      go false q r f = omega arith

module _ (names : List (List ℕ)) (d : apart same names ≡ true) where
  found-few : (fs : Fields) → apart same (keys_of fs) ≡ true → keys_found names fs ≤ length (keys_of fs)
  found-few no_fields h = omega (arith, none_found names)
  found-few (field a e key j fs) h =
      let p = first-apart key (keys_of fs) h in
      omega (arith, key_more a e key j fs p.0 names d, found-few fs p.1, part (any_of names key))
    where
      part : (t : Bool) → cond t 1 0 ≤ 1
      part true = omega arith
      part false = omega arith

  pub found_all : (fs : Fields) → apart same (keys_of fs) ≡ true → eqb (keys_found names fs) (length (keys_of fs)) ≡ all (any_of names) (keys_of fs)
  found_all no_fields h = rw (none_found names)
  found_all (field a e key j fs) h =
      let p = first-apart key (keys_of fs) h in
      rw (key_more a e key j fs p.0 names d) (go (any_of names key) (found-few fs p.1) (found_all fs p.1))
    where
      go : (t : Bool) {n k : ℕ} {u : Bool} → n ≤ k → eqb n k ≡ u → eqb (cond t 1 0 + n) (suc k) ≡ t && u
      go true {n} {k} l r = let z : 1 + n ≡ suc n = omega arith in ap (λ x. eqb x (suc k)) z ∙ eqb-suc-suc n k ∙ r
      go false {n} {k} l r = ne_eqb (0 + n) (suc k) (λ (z : 0 + n ≡ suc k). omega arith)

-- nodes found for names: as many as there are keys among these
module _ {D : Dialect} {s w : List ℕ} {k : ℕ} (fs : Fields) (l : ℕ) (h : HoldsFields D s w fs l (suc k) (next w k)) where
  found_each : {names : List (List ℕ)} {vs : List (Std.Option ℕ)} → FindsEach D s w k names vs → count_by is_some vs ≡ keys_found names fs
  unfolding keys_found
  found_each nothing = refl
  found_each (◌and◌ {name} {v} {vs = vs} f rest) = sum_by-cons (λ x. cond (is_some x) 1 0) v vs ∙ ap₂ (λ (i j : ℕ). i + j) (at (value_at name fs) v (f.told fs l h)) (found_each rest)
    where
      at : (o : Option Json) (v : Std.Option ℕ) → ValueFound D s w l o v → cond (is_some v) 1 0 ≡ present o
      at none None e = refl
      at none (Some i) e = absurd e
      at (some j) None e = absurd e
      at (some j) (Some i) e = refl

-- the law over nodes
pub no_other : {w : List ℕ} {vs : List (Std.Option ℕ)} {k n c : ℕ} → n ≡ count_by is_some vs → CountsFields w k c → NoOthers w k vs (eqb n c)
no_other e g =
    record { told = λ d s names a f. record { told = λ fs l h o. rw (e, found_each fs l h f, g.told d s fs l h) (found_all names a fs o) } }

pub only_these : (d : Dialects.Dialect) {s w : List ℕ} {vs : List (Std.Option ℕ)} {k : ℕ} {names : List (List ℕ)} {r t : Bool} → apart same names ≡ true
    → FindsEach (grammar_of d) s w k names vs → NoOthers w k vs r → r ≡ t → NoOtherKeys (grammar_of d) s w k names t
only_these d {s} {w} {k = k} {names} a f g e = subst (NoOtherKeys (grammar_of d) s w k names) e (g.told d s names a f)

-- fields counted one by one: c of those from node b on are passed, the ones from node a on are left
pub record CountLeft (w : List ℕ) (b a n c : ℕ) : Type 0 where
  pub few : c ≤ a
  pub left : (d : Dialects.Dialect) (s : List ℕ) (fs : Fields) (l : ℕ) → HoldsFields (grammar_of d) s w fs l b n → (gs : Fields) × HoldsFields (grammar_of d) s w gs l a n × (length (keys_of fs) ≡ c + length (keys_of gs))

pub count_begin : (w : List ℕ) (k n : ℕ) → CountLeft w (suc k) (k + 1) n 0
count_begin w k n = rw (add-one k) (record { few = omega arith; left = λ d s fs l h. (fs, h, omega arith) })

module _ {w : List ℕ} {b a n c : ℕ} (v : CountLeft w b a n c) where
  pub count-on : {m : ℕ} → a < n → m ≡ next w a → a < m → CountLeft w b m n (c + 1)
  count-on {m} q e o =
      record {
        few = omega (arith, v.few);
        left = λ d s fs l h.
            let x = v.left d s fs l h in
            let y = first_field (grammar_of d) s w x.0 l a n q x.1 in
            (y.rest, subst (λ (i : ℕ). HoldsFields (grammar_of d) s w y.rest l i n) (sym e) y.after, x.2 ∙ ap (λ (gs : Fields). c + length (keys_of gs)) y.is ∙ omega arith);
      }

module _ {w : List ℕ} {k n : ℕ} (p : n ≡ next w k) where
  counted-so : {r : ℕ} → ((d : Dialects.Dialect) (s : List ℕ) (fs : Fields) (l : ℕ) → HoldsFields (grammar_of d) s w fs l (suc k) n → r ≡ length (keys_of fs)) → CountsFields w k r
  counted-so g = record { told = λ d s fs l h. g d s fs l (subst (λ (i : ℕ). HoldsFields (grammar_of d) s w fs l (suc k) i) (sym p) h) }

  module _ {a c : ℕ} (v : CountLeft w (suc k) a n c) where
    pub count-end : n ≤ a → CountsFields w k c
    count-end q = counted-so (λ d s fs l h. let x = v.left d s fs l h in sym (x.2 ∙ ap (λ (gs : Fields). c + length (keys_of gs)) (no_keys (grammar_of d) s w x.0 l a n q x.1) ∙ omega arith))

    pub count_stuck : {m r : ℕ} → a < n → m ≡ next w a → m ≤ a → CountsFields w k r
    count_stuck {m} q e o = counted-so (λ d s fs l h. let x = v.left d s fs l h in absurd (omega (arith, (first_field (grammar_of d) s w x.0 l a n q x.1).on)))

  pub count_none : n ≤ k → CountsFields w k 0
  count_none q = counted-so (λ d s fs l h. ap (λ (gs : Fields). length (keys_of gs)) (sym (no_keys (grammar_of d) s w fs l (suc k) n (omega arith) h)))
