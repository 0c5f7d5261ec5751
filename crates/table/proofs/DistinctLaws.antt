-- Laws of rule 6: definitions come into an index from the last to the first, and the children of each row are runs.
-- The idea: a definition's link leads to those after it, so a name that is looked up along it is compared with theirs.
use Prim.{tt}
use Prim.Native.Nat.{ℕ, zero, suc, ◌+◌, ◌-◌, ◌≤◌, ◌<◌}
use mathlib.Core.Path.{◌≡◌, refl, sym, ap, ◌∙◌, subst, subst₂}
use mathlib.Core.Bool.{Bool, true, false, not, cond, ◌&&◌, ◌||◌, and-false}
use mathlib.Core.List.{List, [], ◌∷◌}
use native.Mathlib.Nat.{sub-zero}
use native.Mathlib.Omega.{arith}
use lib.ListN.{length, get_or, replicate}
use Rattle.grammar.specs.Notation.{apart}
use Rattle.buckets.specs.Buckets.{buckets, bucket_of, Added, Free, Chain, in_bucket, Linked}
use Rattle.buckets.proofs.BucketLaws.{index-linked}
use Rattle.rules.specs.Types.{built_ins}
use Rattle.rules.specs.Names.{clash}
use Rattle.rules.specs.Rows.{up_from, row_count, walk, children, name_of}
use Rattle.rules.specs.Rules.{those, is_definition, names_of, no_clash, distinct_names}
use Rattle.rules.specs.SchemaTable.{place_in}
use Rattle.std.specs.Prelude.{Option}
use Rattle.std.specs.Option.{is_some}
use Rattle.grammar.proofs.Booleans.{clash as contradiction}
use Rattle.builtins.specs.Names.{if_any}
use Rattle.rows.specs.Hashes.{hash_of, fresh_in}
use Rattle.rows.specs.Index.{itself, row_hash, RowIndex, Unlisted}
use Rattle.table.specs.Definitions.{definition_rows, with_row, DefinitionIndex, DefinitionLinks, RowEntered, clear_in, DefinitionApart, definitions_clear, children_apart}
use Rattle.rows.proofs.Walks.{up_from-on, up_from-end}
use Rattle.rows.specs.Rows.{First, Counted}
use Rattle.rows.proofs.ChildLaws.{children-walk}
use Rattle.rules.proofs.Clashes.{fresh}
use Rattle.table.proofs.DefinitionFacts.{taken-by-place, new-by-place}
use Rattle.rows.proofs.IndexLaws.{index-none, index-more, of_bucket}

-- rows that pass a test
few : (f : ℕ → Bool) (n a : ℕ) → length (those f (up_from a n)) ≤ n
few f zero a = omega arith
few f (suc n) a = go (f a) (those f (up_from (suc a) n)) (few f n (suc a))
  where
    go : (b : Bool) (l : List ℕ) → length l ≤ n → length (cond b (a ∷ l) l) ≤ suc n
    go true l h = omega arith
    go false l h = omega arith

free-those : (f : ℕ → Bool) (j n a : ℕ) → j < a → Free itself j (those f (up_from a n))
free-those f j zero a h = tt
free-those f j (suc n) a h = go (f a) (those f (up_from (suc a) n)) (free-those f j n (suc a) (omega arith))
  where
    go : (b : Bool) (l : List ℕ) → Free itself j l → Free itself j (cond b (a ∷ l) l)
    go true l k = ((λ e. omega arith), k)
    go false l k = k

-- the definitions from row r on
unfoldable pub definitions_from : List ℕ → ℕ → List ℕ
definitions_from T r = those (is_definition T) (up_from r (row_count T - r))

module _ (T : List ℕ) where
  from_on : (r : ℕ) → r < row_count T → definitions_from T r ≡ with_row T r (definitions_from T (r + 1))
  unfolding definitions_from
  from_on r h = ap (those (is_definition T)) (up_from-on r (row_count T) h)

  from_end : (r : ℕ) → row_count T ≤ r → definitions_from T r ≡ []
  unfolding definitions_from
  from_end r h = ap (those (is_definition T)) (up_from-end r (row_count T) h)

  from_first : definitions_from T 0 ≡ definition_rows T
  unfolding definitions_from definition_rows
  from_first = ap (λ n. those (is_definition T) (up_from 0 n)) (sub-zero (row_count T))

  pub few_rows : length (definition_rows T) ≤ row_count T
  unfolding definition_rows
  few_rows = few (is_definition T) (row_count T) 0

  few-from : (r : ℕ) → length (definitions_from T r) ≤ row_count T - r
  unfolding definitions_from
  few-from r = few (is_definition T) (row_count T - r) r

  free-before : (j r : ℕ) → j < r → Free itself j (definitions_from T r)
  unfolding definitions_from
  free-before j r h = free-those (is_definition T) j (row_count T - r) r h

-- the definitions from row r on are in the index
module _ (S T : List ℕ) where
  pub record IndexFrom (heads links : List ℕ) (r : ℕ) : Type 0 where
    pub high : r ≤ row_count T
    pub rows : RowIndex S T heads links (definitions_from T r)

  pub index-start : {heads : List ℕ} (links : List ℕ) → heads ≡ replicate buckets 0 → IndexFrom heads links (row_count T)
  index-start {heads} links z = record {
    high = omega arith;
    rows = subst (RowIndex S T heads links) (sym (from_end T (row_count T) (omega arith))) (index-none S T links z);
  }

  pub index-end : {heads links : List ℕ} {r : ℕ} → IndexFrom heads links r → r ≤ 0 → row_count T ≤ length links → DefinitionIndex S T heads links
  index-end {heads} {links} {r} v h room =
      let z : r ≡ 0 = omega arith in
      record { room = room; rows = subst (RowIndex S T heads links) (ap (definitions_from T) z ∙ from_first T) v.rows }

  module _ {heads links heads' links' : List ℕ} {r : ℕ} (v : IndexFrom heads links r) (low : 0 < r) where
    index-before : RowIndex S T heads' links' (with_row T (r - 1) (definitions_from T r)) → IndexFrom heads' links' (r - 1)
    index-before k =
        let s : r - 1 + 1 ≡ r = omega arith in
        let e = from_on T (r - 1) (omega (arith, v.high)) ∙ ap (λ j. with_row T (r - 1) (definitions_from T j)) s in
        record { high = omega (arith, v.high); rows = subst (RowIndex S T heads' links') (sym e) k }

    pub index_on : RowEntered S T heads links (r - 1) heads' links' → IndexFrom heads' links' (r - 1)
    index_on q = index-before (q.told (definitions_from T r) v.rows (free-before T (r - 1) r (omega arith)))

-- one row comes into the index, or is none of its kind
module _ {S T heads links : List ℕ} (r : ℕ) {d : Bool} (p : d ≡ is_definition T r) where
  pub row-entered : d ≡ true → {heads' links' x : List ℕ} {m : ℕ} → x ≡ name_of S T r → m ≡ hash_of x → r < length links → Added heads links m r heads' links'
      → RowEntered S T heads links r heads' links'
  row-entered t n q h a = record { told = λ rs k f. rw (sym p ∙ t) (index-more r k f h (q ∙ ap hash_of n) a) }

  pub row-left : d ≡ false → RowEntered S T heads links r heads links
  row-left t = record { told = λ rs k f. rw (sym p ∙ t) k }

-- the links of an index, and one definition that is looked up along its own
pub index_links : {S T heads links : List ℕ} → DefinitionIndex S T heads links → DefinitionLinks S T links
index_links {S} {T} k = record { room = k.room; linked = index-linked itself (row_hash S T) k.rows.chains }

some-place : (n : ℕ) → is_some (if_any n) ≡ true → n ≡ 0 → ⊥
some-place zero e z = contradiction e refl
some-place (suc n) e z = absurd (omega arith)

none-place : (n : ℕ) → is_some (if_any n) ≡ false → n ≡ 0
none-place zero e = refl
none-place (suc n) e = contradiction refl e

module _ {S T links : List ℕ} (r : ℕ) {d : Bool} (p : d ≡ is_definition T r) where
  pub no_definition : d ≡ false → DefinitionApart S T links r true
  no_definition t = record { told = λ rs l h. rw (sym p ∙ t) }

  module _ (t : d ≡ true) {x : List ℕ} {i : Option ℕ} (n : x ≡ name_of S T r) (q : i ≡ if_any (place_in built_ins x)) {s : Bool} (w : s ≡ is_some i) where
    pub named-built_in : s ≡ true → DefinitionApart S T links r false
    named-built_in y = record {
      told = λ rs l h. rw (sym p ∙ t, taken-by-place (name_of S T r) (λ e. some-place (place_in built_ins x) (sym (ap is_some q) ∙ sym w ∙ y) (ap (place_in built_ins) n ∙ e)));
    }

    pub named_new : s ≡ false → {m head : ℕ} {b : Bool} → m ≡ hash_of x → head ≡ get_or links r 0 → Unlisted S T links head x b → DefinitionApart S T links r b
    named_new y {m} {head} e g u = record {
      told = λ rs l h.
          let k : Linked itself (row_hash S T) links (r ∷ rs) = subst (λ (c : Bool). Linked itself (row_hash S T) links (cond c (r ∷ rs) rs)) (sym p ∙ t) l in
          let j : bucket_of (row_hash S T r) ≡ bucket_of m = ap bucket_of (sym (e ∙ ap hash_of n)) in
          let c : Chain itself links head (in_bucket (row_hash S T) (bucket_of m) rs) =
          subst₂ (λ (j w : ℕ). Chain itself links j (in_bucket (row_hash S T) w rs)) (sym g) j k.0 in
          rw (sym p ∙ t, new-by-place (name_of S T r) (sym (ap (place_in built_ins) n) ∙ none-place (place_in built_ins x) (sym (ap is_some q) ∙ sym w ∙ y))) (of_bucket e u rs c h ∙ ap (λ w. fresh_in S T w rs) n);
    }

-- rule 6 of the definitions, row by row
regroup : (a b c d : Bool) → ((a && b) && (c && d)) ≡ ((c && a) && (b && d))
regroup true b true d = refl
regroup true b false d = and-false b
regroup false b true d = refl
regroup false b false d = refl

abbrev clear : List (List ℕ) → Bool
clear xs = apart clash xs && no_clash xs built_ins

module _ (S T : List ℕ) where
  abbrev definition_clear : ℕ → Bool
  definition_clear r = clear_in S T r (definitions_from T (r + 1))

  clear-on : (r : ℕ) → r < row_count T → clear (names_of S T (definitions_from T r)) ≡ (definition_clear r && clear (names_of S T (definitions_from T (r + 1))))
  clear-on r h = ap (λ rs. clear (names_of S T rs)) (from_on T r h) ∙ go (is_definition T r) (definitions_from T (r + 1))
    where
      go : (d : Bool) (rs : List ℕ)
          → clear (names_of S T (cond d (r ∷ rs) rs)) ≡ ((not d || (fresh (name_of S T r) built_ins && fresh_in S T (name_of S T r) rs)) && clear (names_of S T rs))
      go true rs = regroup (fresh_in S T (name_of S T r) rs) (apart clash (names_of S T rs)) (fresh (name_of S T r) built_ins) (no_clash (names_of S T rs) built_ins)
      go false rs = refl

  -- the links lead to the definitions from row r on, and `whole` is true where these are clear
  pub record ClearFrom (whole : Bool) (links : List ℕ) (r : ℕ) : Type 0 where
    pub linked : Linked itself (row_hash S T) links (definitions_from T r)
    pub left : whole ≡ clear (names_of S T (definitions_from T r))

  pub clear-start : {links : List ℕ} → DefinitionLinks S T links → ClearFrom (definitions_clear S T) links 0
  unfolding definition_rows
  clear-start {links} k = record {
    linked = subst (Linked itself (row_hash S T) links) (sym (from_first T)) k.linked;
    left = ap (λ rs. clear (names_of S T rs)) (sym (from_first T));
  }

  pub clear-end : {whole : Bool} {links : List ℕ} {r : ℕ} → ClearFrom whole links r → row_count T ≤ r → true ≡ whole
  clear-end {r = r} v h = sym (v.left ∙ ap (λ rs. clear (names_of S T rs)) (from_end T r h))

  module _ {whole : Bool} {links : List ℕ} {r : ℕ} {b : Bool} (v : ClearFrom whole links r) (more : r < row_count T) (room : row_count T ≤ length links)
      (q : DefinitionApart S T links r b) where
    after : Linked itself (row_hash S T) links (with_row T r (definitions_from T (r + 1)))
    after = subst (Linked itself (row_hash S T) links) (from_on T r more) v.linked

    clear-here : b ≡ definition_clear r
    clear-here = q.told (definitions_from T (r + 1)) after (omega (arith, few-from T (r + 1)))

    pub clear_hit : b ≡ false → false ≡ whole
    clear_hit t = sym (v.left ∙ clear-on r more ∙ ap (λ (c : Bool). c && clear (names_of S T (definitions_from T (r + 1)))) (sym clear-here ∙ t))

    pub clear_next : b ≡ true → ClearFrom whole links (r + 1)
    clear_next t = record {
      linked = go (is_definition T r) after;
      left = v.left ∙ clear-on r more ∙ ap (λ (c : Bool). c && clear (names_of S T (definitions_from T (r + 1)))) (sym clear-here ∙ t);
    }
      where
        go : (c : Bool) → Linked itself (row_hash S T) links (cond c (r ∷ definitions_from T (r + 1)) (definitions_from T (r + 1))) → Linked itself (row_hash S T) links (definitions_from T (r + 1))
        go true l = l.1
        go false l = l

  -- rule 6 of children, and in two parts
  pub apart-children : {r a n : ℕ} {b : Bool} → First T r a → Counted T r n → b ≡ apart clash (names_of S T (walk T a n)) → b ≡ apart clash (names_of S T (children T r))
  apart-children p q t = rw (children-walk p q) t

  pub distinct_not : definitions_clear S T ≡ false → false ≡ distinct_names S T
  unfolding distinct_names
  distinct_not e = rw e

  pub distinct_rest : definitions_clear S T ≡ true → children_apart S T ≡ distinct_names S T
  unfolding distinct_names
  distinct_rest e = rw e
