-- Rule 10 of an alternate. While its alternatives are looked at, the types found stand by the columns of their kinds, and those left have other kinds.
-- In the end there is one type of each kind, so two that may not stand beside each other are that of strings and that of what its strings look like.
use Prim.Native.Nat.{ℕ, ◌-◌, ◌≤◌, ◌<◌}
use mathlib.Core.Path.{◌≡◌, refl, sym, ap, ap₂, ◌∙◌, subst}
use mathlib.Core.Bool.{Bool, true, false, not, cond, ◌&&◌, ◌||◌, and-true, and-false, and_assoc, or-false}
use mathlib.Core.Logic.{◌⊎◌, inl, inr}
use mathlib.Core.List.{List, [], ◌∷◌}
use mathlib.Core.Option.{Option, none, some}
use native.Mathlib.Omega.{arith}
use lib.Dec.{eqb, leb}
use lib.ListN.{length, get_or, set, replicate, length-set, length-replicate, get_or-replicate}
use lib.Seq.{get_or-set_same, get_or-set_other}
use borrow.Author.Tests.{eqb-true, eqb-false, leb-true, not-true, eq-eqb, ne_eqb, lt-ltb}
use Rattle.grammar.proofs.Booleans.{by, both, either, clash}
use Rattle.grammar.specs.Notation.{all}
use Rattle.grammar.specs.Tree.{Kind}
use Rattle.grammar.specs.Tree.Kind.{string, number, boolean}
use Rattle.rules.specs.Types.{first_row, str_type, column, same_kind}
use Rattle.rules.specs.Rows.{count, is_enum, type_ref, children, type_kind}
use Rattle.rules.specs.Rules.{any, is, names_of, kinds_fit, of_json_kind, types_of, starts_with_digit, on_or_off, has_value, str_mix, digit_mix, on_off_mix, unmixed, alternate_fits}
use Rattle.rules.proofs.First.{decided}
use Rattle.rules.proofs.Grid.{built_in_kind_lem, row_kind_lem}
use Rattle.rows.proofs.ListLaws.{all_same, all_both, all_true, eqb-sym}
use Rattle.table.specs.declared.looks.Like.{Like}
use Rattle.table.specs.declared.looks.Like.TheVariants.{Number, Boolean}
use Rattle.table.specs.Looks.{looks_like, like_kind, type_looks, stands_beside}
use Rattle.table.specs.Alternatives.{no_column, kind_column, column_of, kind_new, type_of_kind, TypesFound, types_apart}
use Rattle.table.proofs.KindLaws.{column-small, kinds-none, kinds-more}

-- a type, or where it is 0 another
abbrev pub or_else : ℕ → ℕ → ℕ
or_else t u = cond (eqb t 0) u t

-- no type of the rows has a kind of which one was found
unfoldable pub free : List ℕ → List ℕ → List ℕ → Bool
free T types rs = all (λ r. eqb (get_or types (column_of T r) 0) 0) rs

-- the alternatives rs fit if those left do and have other kinds than those found; the types found are the first of their kinds
pub record KindsLeft (T rs types rest : List ℕ) : Type 0 where
  pub wide : length types ≡ no_column
  pub fit : kinds_fit T rs ≡ free T types rest && kinds_fit T rest
  pub found : (k : ℕ) → k < no_column → type_of_kind T k rs ≡ or_else (get_or types k 0) (type_of_kind T k rest)

column-within : (o : Option Kind) → kind_column o ≤ no_column
column-within none = omega arith
column-within (some k) = omega (arith, column-small k)

column-cases : (o : Option Kind) → (kind_column o < no_column) ⊎ (kind_column o ≡ no_column)
column-cases none = inr refl
column-cases (some k) = inl (column-small k)

or_none : (t : ℕ) → or_else t 0 ≡ t
or_none t = by (λ u. u ≡ t) (eqb t 0) (λ e. sym (eqb-true t 0 e)) (λ _. refl)

-- a type of a kind, by its column
kind-by-column : (T : List ℕ) (k : Kind) (t : ℕ) → of_json_kind T k t ≡ eqb (kind_column (type_kind T t)) (column k)
kind-by-column T k t = go (type_kind T t)
  where
    go : (o : Option Kind) → is o (same_kind k) ≡ eqb (kind_column o) (column k)
    go none = sym (ne_eqb no_column (column k) (omega (arith, column-small k)))
    go (some j) = eqb-sym (column k) (column j)

-- a type that is none has no kind
no_type : (T : List ℕ) (t : ℕ) → t ≡ 0 → kind_column (type_kind T t) ≡ no_column
no_type T t e = rw (built_in_kind_lem T t (omega arith), e)

module _ {types : List ℕ} (e : types ≡ replicate no_column 0) where
  empty : (k : ℕ) → (k < no_column) ⊎ (k ≡ no_column) → eqb (get_or types k 0) 0 ≡ true
  empty k (inl h) = rw (e, get_or-replicate {A = ℕ} no_column k 0 0 h)
  empty k (inr h) = rw (e, h)

  pub kinds-start : (T : List ℕ) {rs : List ℕ} (all-left : List ℕ) → rs ≡ all-left → KindsLeft T all-left types rs
  unfolding free
  kinds-start T l q = rw q (record {
    wide = ap length e ∙ length-replicate {A = ℕ} no_column 0;
    fit = sym (ap (λ (b : Bool). b && kinds_fit T l) (all_true (λ r. eqb (get_or types (column_of T r) 0) 0) l (λ r. empty (column_of T r) (column-cases (type_kind T (type_ref T r))))));
    found = λ k h. rw (e, get_or-replicate {A = ℕ} no_column k 0 0 h);
  })

module _ {T rs types rest : List ℕ} (l : KindsLeft T rs types rest) where
  pub kinds-over : rest ≡ [] → TypesFound T rs types
  unfolding free kinds_fit type_of_kind
  kinds-over h = record {
    is = l.fit ∙ rw h;
    found = λ k b. sym (l.found k b ∙ rw h (or_none (get_or types k 0)));
  }

  module _ {c : ℕ} {others : List ℕ} (h : rest ≡ c ∷ others) {k : ℕ} (p : k ≡ column_of T c) where
    pub kinds_fail : k ≡ no_column → kinds_fit T rs ≡ false
    kinds_fail z = l.fit ∙ rw (h, kinds-none T c others p z) (and-false (free T types (c ∷ others)))

    -- it has a kind, of column j
    module _ (m : k ≡ no_column → ⊥) {j : ℕ} (e : j ≡ k) where
      pub column-room : j < no_column
      column-room = omega (arith, column-within (type_kind T (type_ref T c)))

      pub kinds-taken : 0 < get_or types j 0 → kinds_fit T rs ≡ false
      unfolding free
      kinds-taken f = l.fit ∙ rw (h, ← p, ← e, ne_eqb (get_or types j 0) 0 (omega arith))

      module _ (f : get_or types j 0 ≡ 0) {t : ℕ} (q : t ≡ type_ref T c) where
        some-type : t ≡ 0 → ⊥
        some-type z = m (p ∙ no_type T (type_ref T c) (sym q ∙ z))

        placed : get_or (set types j t) j 0 ≡ t
        placed = get_or-set_same types j t 0 (omega (arith, l.wide, column-room))

        -- a kind is free still if it was and is another
        still-free : (i : ℕ) → eqb (get_or (set types j t) i 0) 0 ≡ eqb (get_or types i 0) 0 && not (eqb i k)
        still-free i = go (eqb i j) refl
          where
            go : (b : Bool) → eqb i j ≡ b → eqb (get_or (set types j t) i 0) 0 ≡ eqb (get_or types i 0) 0 && not (eqb i k)
            go true g = let z : i ≡ j = eqb-true i j g in rw (z, placed, ne_eqb t 0 some-type, eq-eqb j k e) (sym (and-false (eqb (get_or types j 0) 0)))
            go false g = rw (get_or-set_other types j i t 0 (eqb-false i j g), ← e, g) (sym (and-true (eqb (get_or types i 0) 0)))

        all-free : (x : List ℕ) → free T (set types j t) x ≡ free T types x && kind_new T k x
        unfolding free kind_new
        all-free x =
            all_same (λ r. eqb (get_or (set types j t) (column_of T r) 0) 0) (λ r. eqb (get_or types (column_of T r) 0) 0 && not (eqb (column_of T r) k)) x (λ r. still-free (column_of T r))
            ∙ all_both (λ r. eqb (get_or types (column_of T r) 0) 0) (λ r. not (eqb (column_of T r) k)) x

        now-free : (x : List ℕ) → free T types (c ∷ x) ≡ free T types x
        unfolding free
        now-free x = rw (← p, ← e, eq-eqb (get_or types j 0) 0 f)

        fit_on : (x : List ℕ) → free T types (c ∷ x) && kinds_fit T (c ∷ x) ≡ free T (set types j t) x && kinds_fit T x
        fit_on x =
            ap₂ (λ (a b : Bool). a && b) (now-free x) (kinds-more T c x p m) ∙ sym (and_assoc (free T types x) (kind_new T k x) (kinds_fit T x))
            ∙ ap (λ (b : Bool). b && kinds_fit T x) (sym (all-free x))

        found-on : (i : ℕ) (x : List ℕ) → or_else (get_or types i 0) (type_of_kind T i (c ∷ x)) ≡ or_else (get_or (set types j t) i 0) (type_of_kind T i x)
        unfolding type_of_kind
        found-on i x = go (eqb j i) refl
          where
            go : (b : Bool) → eqb j i ≡ b → or_else (get_or types i 0) (cond (eqb (column_of T c) i) (type_ref T c) (type_of_kind T i x)) ≡ or_else (get_or (set types j t) i 0) (type_of_kind T i x)
            go true g = let z : j ≡ i = eqb-true j i g in rw (← z, ← p, ← q, f, eq-eqb k j (sym e), placed, ne_eqb t 0 some-type)
            go false g = rw (get_or-set_other types j i t 0 (λ (z : i ≡ j). eqb-false j i g (sym z)), ← p, ← e, g)

        pub kinds-on : KindsLeft T rs (set types j t) others
        kinds-on = record {
          wide = length-set types j t ∙ l.wide;
          fit = l.fit ∙ ap (λ (x : List ℕ). free T types x && kinds_fit T x) h ∙ fit_on others;
          found = λ i b. l.found i b ∙ ap (λ (x : List ℕ). or_else (get_or types i 0) (type_of_kind T i x)) h ∙ found-on i others;
        }

-- two types of which one is mixed with the other, by what strings look like
module _ (S T : List ℕ) where
  unfoldable taken_for : Like → ℕ → ℕ → Bool
  taken_for like t u = type_looks S T like t && of_json_kind T (like_kind like) u

  mixes : (t u : ℕ) → str_mix S T t u || digit_mix S T t u || on_off_mix S T t u ≡ taken_for Number t u || taken_for Boolean t u
  unfolding taken_for type_looks
  mixes t u = go (eqb t str_type) (has_value S T starts_with_digit t) (has_value S T on_or_off t) (of_json_kind T number u) (of_json_kind T boolean u)
    where
      go : (s d o n b : Bool) → (s && (n || b)) || (d && n) || (o && b) ≡ ((s || d) && n) || ((s || o) && b)
      go true d o true b = refl
      go true d o false true = refl
      go true d o false false = rw (and-false d, and-false o)
      go false d o n b = refl

-- no pair of p and q, one of each list: no p in one, or no q in the other
not-one : {A : Type 0} (x : Bool) (q : A → Bool) (us : List A) → all (λ u. not (x && q u)) us ≡ not (x && any q us)
not-one true q [] = refl
not-one false q [] = refl
not-one true q (u ∷ us) = go (q u) (not-one true q us)
  where
    go : (b : Bool) → all (λ u. not (q u)) us ≡ not (any q us) → not b && all (λ u. not (q u)) us ≡ not (b || any q us)
    go true h = refl
    go false h = h
not-one false q (u ∷ us) = not-one false q us

no_pair : {A : Type 0} (p q : A → Bool) (ts us : List A) → all (λ t. all (λ u. not (p t && q u)) us) ts ≡ not (any p ts && any q us)
no_pair p q [] us = refl
no_pair p q (t ∷ ts) us = ap₂ (λ (a b : Bool). a && b) (not-one (p t) q us) (no_pair p q ts us) ∙ go (p t) (any p ts) (any q us)
  where
    go : (x y z : Bool) → not (x && z) && not (y && z) ≡ not ((x || y) && z)
    go true y true = refl
    go true true false = refl
    go true false false = refl
    go false y z = refl

not_or : (a b : Bool) → not (a || b) ≡ not a && not b
not_or true b = refl
not_or false b = refl

module _ (S T : List ℕ) where
  -- no type of strings that look so stands beside one of what they look like
  unfoldable pub beside_none : Like → List ℕ → Bool
  beside_none like ts = not (any (type_looks S T like) ts && any (of_json_kind T (like_kind like)) ts)

  pub unmixed-by : (ts : List ℕ) → unmixed S T ts ≡ beside_none Number ts && beside_none Boolean ts
  unfolding unmixed beside_none taken_for
  unmixed-by ts =
      all_same (λ t. all (λ u. not (str_mix S T t u || digit_mix S T t u || on_off_mix S T t u)) ts) (λ t. all (λ u. not (taken_for S T Number t u)) ts && all (λ u. not (taken_for S T Boolean t u)) ts) ts
      (λ t. all_same (λ u. not (str_mix S T t u || digit_mix S T t u || on_off_mix S T t u)) (λ u. not (taken_for S T Number t u) && not (taken_for S T Boolean t u)) ts
      (λ u. ap not (mixes S T t u) ∙ not_or (taken_for S T Number t u) (taken_for S T Boolean t u))
      ∙ all_both (λ u. not (taken_for S T Number t u)) (λ u. not (taken_for S T Boolean t u)) ts)
      ∙ all_both (λ t. all (λ u. not (taken_for S T Number t u)) ts) (λ t. all (λ u. not (taken_for S T Boolean t u)) ts) ts
      ∙ ap₂ (λ (a b : Bool). a && b) (no_pair (type_looks S T Number) (of_json_kind T number) ts ts) (no_pair (type_looks S T Boolean) (of_json_kind T boolean) ts ts)

  -- of a kind that strings may look like, where there is a type of it
  any_of-kind : (k : Kind) (rs : List ℕ) → any (of_json_kind T k) (types_of T rs) ≡ not (eqb (type_of_kind T (column k) rs) 0)
  unfolding type_of_kind
  any_of-kind k [] = refl
  any_of-kind k (r ∷ rs) = go (eqb (column_of T r) (column k)) refl (any_of-kind k rs)
    where
      go : (b : Bool) → eqb (column_of T r) (column k) ≡ b → any (of_json_kind T k) (types_of T rs) ≡ not (eqb (type_of_kind T (column k) rs) 0)
          → of_json_kind T k (type_ref T r) || any (of_json_kind T k) (types_of T rs) ≡ not (eqb (cond b (type_ref T r) (type_of_kind T (column k) rs)) 0)
      go true e h = rw (kind-by-column T k (type_ref T r), e, ne_eqb (type_ref T r) 0 (λ z. omega (arith, eqb-true (column_of T r) (column k) e, no_type T (type_ref T r) z, column-small k)))
      go false e h = rw (kind-by-column T k (type_ref T r), e) h

  -- of the types with strings that look so, the only one of strings
  not_strings : (like : Like) (t : ℕ) → (kind_column (type_kind T t) ≡ column string → ⊥) → type_looks S T like t ≡ false
  unfolding type_looks
  not_strings like t n = decided (type_looks S T like t) (either (eqb t str_type) (has_value S T (looks_like like) t) (λ e. n (of_str (eqb-true t str_type e))) (λ e. n (of_enum e)))
    where
      of_str : t ≡ str_type → kind_column (type_kind T t) ≡ column string
      of_str e = rw (built_in_kind_lem T t (omega arith), e)

      of_enum : has_value S T (looks_like like) t ≡ true → kind_column (type_kind T t) ≡ column string
      of_enum e =
          let b = both (leb first_row t && is_enum T (t - first_row)) (any (looks_like like) (names_of S T (children T (t - first_row)))) e in
          let g = both (leb first_row t) (is_enum T (t - first_row)) b.0 in
          rw (row_kind_lem T t (t - first_row) (omega (arith, leb-true first_row t g.0)), g.1)

  no_strings : (like : Like) → type_looks S T like 0 ≡ false
  unfolding type_looks
  no_strings like = refl

  none-later : (like : Like) (rs : List ℕ) → kind_new T (column string) rs ≡ true → any (type_looks S T like) (types_of T rs) ≡ false
  unfolding kind_new
  none-later like [] h = refl
  none-later like (r ∷ rs) h =
      let b = both (not (eqb (column_of T r) (column string))) (all (λ x. not (eqb (column_of T x) (column string))) rs) h in
      rw (not_strings like (type_ref T r) (eqb-false (column_of T r) (column string) (not-true (eqb (column_of T r) (column string)) b.0))) (none-later like rs b.1)

  any-looks : (like : Like) (rs : List ℕ) → kinds_fit T rs ≡ true → any (type_looks S T like) (types_of T rs) ≡ type_looks S T like (type_of_kind T (column string) rs)
  unfolding type_of_kind
  any-looks like [] h = sym (no_strings like)
  any-looks like (r ∷ rs) h = go (eqb (column_of T r) (column string)) refl (any-looks like rs parts.1)
    where
      some-kind : column_of T r ≡ no_column → ⊥
      some-kind z = clash h (kinds-none T r rs refl z)

      parts : (kind_new T (column_of T r) rs ≡ true) × (kinds_fit T rs ≡ true)
      parts = both (kind_new T (column_of T r) rs) (kinds_fit T rs) (sym (kinds-more T r rs refl some-kind) ∙ h)

      go : (b : Bool) → eqb (column_of T r) (column string) ≡ b → any (type_looks S T like) (types_of T rs) ≡ type_looks S T like (type_of_kind T (column string) rs)
          → type_looks S T like (type_ref T r) || any (type_looks S T like) (types_of T rs) ≡ type_looks S T like (cond b (type_ref T r) (type_of_kind T (column string) rs))
      go true e i = rw (none-later like rs (subst (λ k. kind_new T k rs ≡ true) (eqb-true (column_of T r) (column string) e) parts.0)) (or-false (type_looks S T like (type_ref T r)))
      go false e i = rw (not_strings like (type_ref T r) (eqb-false (column_of T r) (column string) e)) i

-- types found by their kinds: none beside another is as those of strings, numbers and bools say
module _ (S T : List ℕ) {rs types : List ℕ} (l : TypesFound T rs types) where
  beside_none_lem : (like : Like) → beside_none S T like (types_of T rs) ≡ stands_beside S T like (get_or types (column string) 0) (get_or types (column (like_kind like)) 0)
  unfolding beside_none stands_beside
  beside_none_lem like =
      rw (any-looks S T like rs l.is, any_of-kind S T (like_kind like) rs, l.found (column string) (column-small string), l.found (column (like_kind like)) (column-small (like_kind like)))
      (go (type_looks S T like (type_of_kind T (column string) rs)) (eqb (type_of_kind T (column (like_kind like)) rs) 0))
    where
      go : (x y : Bool) → not (x && not y) ≡ y || not x
      go true true = refl
      go true false = refl
      go false true = refl
      go false false = refl

  pub types_apart_lem : unmixed S T (types_of T rs) ≡ types_apart S T types
  types_apart_lem = unmixed-by S T (types_of T rs) ∙ ap₂ (λ (x y : Bool). x && y) (beside_none_lem Number) (beside_none_lem Boolean)

-- a type beside none, and beside one
module _ (S T : List ℕ) (like : Like) (t : ℕ) {other : ℕ} where
  pub beside_nothing : other ≡ 0 → true ≡ stands_beside S T like t other
  unfolding stands_beside
  beside_nothing e = rw e

  pub beside_type : (other ≡ 0 → ⊥) → {t' : ℕ} {b : Bool} → t' ≡ t → b ≡ type_looks S T like t' → not b ≡ stands_beside S T like t other
  unfolding stands_beside
  beside_type n e q = rw (ne_eqb other 0 n, ← e, q)

-- an alternate: some alternative, kinds that fit, types that may stand beside each other
module _ (S T : List ℕ) (r : ℕ) {n : ℕ} (p : n ≡ count T r) where
  pub alternate_empty : n ≡ 0 → false ≡ alternate_fits S T r
  alternate_empty z = rw (← p, z)

  module _ (h : n ≡ 0 → ⊥) where
    pub alternate-same_kinds : kinds_fit T (children T r) ≡ false → false ≡ alternate_fits S T r
    alternate-same_kinds e = rw (← p, lt-ltb 0 n (omega arith), e)

    pub alternate-is : {types : List ℕ} → TypesFound T (children T r) types → {x : Bool} → x ≡ types_apart S T types → x ≡ alternate_fits S T r
    alternate-is l q = q ∙ rw (← p, lt-ltb 0 n (omega arith), l.is) (sym (types_apart_lem S T l))
