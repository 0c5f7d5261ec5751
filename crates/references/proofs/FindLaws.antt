-- A name is looked for in the index of definitions, along its bucket's chain; what a word names then.
-- The idea: rows with the heads of the indexed table have its kinds and names, and definitions of one name are in one bucket, in the order of rows.
use Prim.{tt}
use Prim.Native.Nat.{ℕ, zero, suc, ◌+◌, ◌-◌, ◌*◌, ◌≤◌, ◌<◌, ◌^◌}
use mathlib.Core.Path.{◌≡◌, refl, sym, ap, ◌∙◌, subst}
use mathlib.Core.Bool.{Bool, true, false, not, cond, ◌||◌}
use mathlib.Core.List.{List, [], ◌∷◌}
use native.Mathlib.Numerals.{add-one}
use native.Mathlib.Omega.{arith}
use Rattle.std.specs.Prelude.{Option, Some, None}
use Rattle.builtins.specs.Names.{if_any}
use Rattle.table.specs.Definitions.{DefinitionIndex}
use lib.Dec.{eqb, ltb}
use lib.ListN.{length, get_or, get_or-eq_default}
use borrow.Author.Tests.{ne_eqb, eqb-false, ltb-true, ltb-false}
use Rattle.grammar.specs.Limits.{row_words}
use Rattle.grammar.proofs.Lists.{same_true}
use Rattle.buckets.specs.Buckets.{bucket_of, in_bucket}
use Rattle.buckets.proofs.BucketLaws.{bucket-short, index-walk}
use Rattle.rules.specs.Kinds.{enum_kind, struct_kind, union_kind, alternate_kind}
use Rattle.rules.specs.Types.{built_ins, first_row}
use Rattle.rules.specs.Names.{same_name}
use Rattle.rules.specs.Rows.{kind, name_of}
use Rattle.rules.specs.SchemaTable.{place_in, reference}
use Rattle.rules.specs.Serving.Cells.{first_link, is_named}
use Rattle.rules.proofs.Lists.{clash, and_left, and_right}
use Rattle.rows.specs.Index.{itself, row_hash}
use Rattle.table.specs.Definitions.{definition_rows}
use Rattle.rows.specs.Hashes.{hash_of}
use Rattle.rows.proofs.Walks.{granted, denied}
use Rattle.buckets.proofs.ChainWalks.{walk_start, walk_end, walk_out}
use Rattle.rows.proofs.IndexLaws.{Walk, Says, walk_hit, walk-on}
use Rattle.table.proofs.DistinctLaws.{few_rows}
use Rattle.references.specs.Lookups.{name_in, fitting, find_row, refers_to, word_refers, row_of, Heads, Finds, Refers}

-- kinds that may be meant
pub fit-type : (s : Bool) {k n : ℕ} → k ≡ n → eqb n struct_kind ≡ false → (eqb n enum_kind || eqb n struct_kind || eqb n union_kind || eqb n alternate_kind) ≡ true → not s ≡ fitting s k
fit-type true e p q = rw (e, p)
fit-type false e p q = rw (e, q)

pub fit-struct : (s : Bool) {k : ℕ} → k ≡ struct_kind → true ≡ fitting s k
fit-struct true e = rw e
fit-struct false e = rw e

pub fit_none : (s : Bool) {k : ℕ} → (k ≡ enum_kind → ⊥) → (k ≡ struct_kind → ⊥) → (k ≡ union_kind → ⊥) → (k ≡ alternate_kind → ⊥) → false ≡ fitting s k
fit_none true {k} a b c d = rw (ne_eqb k struct_kind b)
fit_none false {k} a b c d = rw (ne_eqb k enum_kind a, ne_eqb k struct_kind b, ne_eqb k union_kind c, ne_eqb k alternate_kind d)

fit-some : (s : Bool) (k : ℕ) → fitting s k ≡ true → k ≡ 0 → ⊥
fit-some true k e z = clash e (rw z)
fit-some false k e z = clash e (rw z)

-- a row of a kind that may be meant is there
fit-there : (U : List ℕ) (s : Bool) (r : ℕ) → fitting s (kind U r) ≡ true → row_words * r < length U
fit-there U s r e = go (ltb (row_words * r) (length U)) refl
  where
    go : (b : Bool) → ltb (row_words * r) (length U) ≡ b → row_words * r < length U
    go true p = ltb-true (row_words * r) (length U) p
    go false p =
        let l : length U ≤ row_words * r = ltb-false (row_words * r) (length U) p in
        absurd (fit-some s (kind U r) e (get_or-eq_default U 0 {n = row_words * r + 0} (omega arith)))

-- heads
module _ {T U : List ℕ} (h : Heads T U) (r : ℕ) where
  pub heads_kind : kind U r ≡ kind T r
  heads_kind = h.same_head r 0 (omega arith)

  pub heads_name : (S : List ℕ) → name_of S U r ≡ name_of S T r
  unfolding name_of
  heads_name S = rw (h.same_head r 1 (omega arith), h.same_head r 2 (omega arith))

  heads_named : (S : List ℕ) (s : Bool) (x : List ℕ) → is_named S U (fitting s) x r ≡ is_named S T (fitting s) x r
  heads_named S s x = rw (heads_kind, heads_name S)

-- the tests of one row, in order
module _ (S U : List ℕ) (s : Bool) (x : List ℕ) (r : ℕ) {k : ℕ} {v : Bool} (p : k ≡ kind U r) (q : v ≡ fitting s k) where
  pub named_unfit : not v ≡ true → false ≡ is_named S U (fitting s) x r
  named_unfit n = rw (← p, denied q n)

  pub named-same : not v ≡ false → {y : List ℕ} {t : Bool} → y ≡ name_of S U r → t ≡ same_name x y → t ≡ is_named S U (fitting s) x r
  named-same n f t = rw (← p, granted q n, ← f) t

-- a name's bucket has every definition of that name, in their order
bucket-first : (hash : ℕ → ℕ) (f : ℕ → Bool) (m : ℕ) → ((r : ℕ) → f r ≡ true → hash r ≡ m) → (rs : List ℕ) → first_link f (in_bucket hash (bucket_of m) rs) ≡ first_link f rs
bucket-first hash f m g [] = refl
bucket-first hash f m g (r ∷ rs) = go (eqb (bucket_of (hash r)) (bucket_of m)) refl (f r) refl (bucket-first hash f m g rs)
  where
    go : (b : Bool) → eqb (bucket_of (hash r)) (bucket_of m) ≡ b → (t : Bool) → f r ≡ t → first_link f (in_bucket hash (bucket_of m) rs) ≡ first_link f rs
        → first_link f (cond b (r ∷ in_bucket hash (bucket_of m) rs) (in_bucket hash (bucket_of m) rs)) ≡ cond (f r) (suc r) (first_link f rs)
    go true p t q e = ap (λ (l : ℕ). cond (f r) (suc r) l) e
    go false p true q e = absurd (eqb-false (bucket_of (hash r)) (bucket_of m) p (ap bucket_of (g r q)))
    go false p false q e = e ∙ sym (ap (λ (z : Bool). cond z (suc r) (first_link f rs)) q)

-- what is left to look at of the chain, whatever table the rows have the heads of
pub record Left (S U links : List ℕ) (s : Bool) (x : List ℕ) (head y n : ℕ) : Type 0 where
  pub told : (T : List ℕ) → Heads T U → Walk (first_link (is_named S T (fitting s) x)) links head (length links) y n

pub left-start : {S U links : List ℕ} {s : Bool} {x : List ℕ} {head : ℕ} → Left S U links s x head head (length links)
left-start {S} {U} {links} {s} {x} = record { told = λ T h. walk_start }

row_small : (v : ℕ) → v ≤ 2 ^ 29 → (i : ℕ) → row_of v ≡ Some i → i < 2 ^ 29
row_small zero h i e = absurd (cc)
row_small (suc v) h i e = let z : v ≡ i = cc in omega arith

pub row_there : (y : ℕ) → 0 < y → row_of y ≡ Some (y - 1)
row_there zero h = absurd (omega arith)
row_there (suc y) h = ap Some (omega arith)

module _ {S U heads links : List ℕ} {s : Bool} {x : List ℕ} {m head : ℕ} (p : m ≡ hash_of x) (q : head ≡ get_or heads (bucket_of m) 0) where
  -- what the chain says is what all definitions say
  found : (v : ℕ) → v ≤ 2 ^ 29 → ((T : List ℕ) → Heads T U → Says (first_link (is_named S T (fitting s) x)) links head (length links) v) → Finds S U heads links s x (row_of v)
  unfolding find_row
  found v small says = record {
    small = row_small v small;
    told = λ T k h. ap row_of (
        let few : length (in_bucket (row_hash S T) (bucket_of m) (definition_rows T)) ≤ length links =
        omega (arith, bucket-short (row_hash S T) (bucket_of m) (definition_rows T), few_rows T, k.room) in
        sym ((says T h).told (in_bucket (row_hash S T) (bucket_of m) (definition_rows T)) (index-walk itself (row_hash S T) k.rows.chains m q) few tt)
        ∙ bucket-first (row_hash S T) (is_named S T (fitting s) x) m
        (λ r e. ap hash_of (sym (same_true x (name_of S T r) (and_right (fitting s (kind T r)) (same_name x (name_of S T r)) e))) ∙ sym p) (definition_rows T));
  }

  module _ {y n : ℕ} (w : Left S U links s x head y n) where
    pub left_end : y ≡ 0 → Finds S U heads links s x None
    left_end e = found 0 (omega arith) (λ T h. walk_end (w.told T h) e)

    pub left_out : n ≤ 0 → Finds S U heads links s x None
    left_out e = found 0 (omega arith) (λ T h. walk_out (w.told T h) e)

    pub left_hit : y ≤ 2 ^ 29 → 0 < y → {b : Bool} → b ≡ is_named S U (fitting s) x (y - 1) → b ≡ true → Finds S U heads links s x (Some (y - 1))
    left_hit small low t e =
        let z : suc (y - 1) ≡ y = omega arith in
        subst (λ (o : Option ℕ). Finds S U heads links s x o) (row_there y low) (found y small (λ T h. walk_hit (w.told T h) low y
        (λ rs. rw (sym (t ∙ heads_named h (y - 1) S s x) ∙ e) z)))

pub left-on : {S U links : List ℕ} {s : Bool} {x : List ℕ} {head y n k : ℕ} {b : Bool} → Left S U links s x head y n → 0 < y → b ≡ is_named S U (fitting s) x (y - 1) → b ≡ false
    → k ≡ get_or links (y - 1) 0 → Left S U links s x head k (n - 1)
left-on {S} {U} {links} {s} {x} {y = y} w low t e p = record {
  told = λ T h. walk-on (w.told T h) low p (λ rs. rw (sym (t ∙ heads_named h (y - 1) S s x) ∙ e));
}

-- a row that is named is there
pub left-small : (S U : List ℕ) (s : Bool) (x : List ℕ) {y : ℕ} {b : Bool} → length U < 2 ^ 32 → b ≡ is_named S U (fitting s) x (y - 1) → b ≡ true → y ≤ 2 ^ 29
left-small S U s x {y} n t e =
    omega (arith, fit-there U s (y - 1) (and_left (fitting s (kind U (y - 1))) (same_name x (name_of S U (y - 1))) (sym t ∙ e)))

-- what a word names
word-named : (S T : List ℕ) (s : Bool) (w : ℕ) (x : List ℕ) → (w ≡ 0 → ⊥) → x ≡ name_in S w → word_refers S T s w ≡ refers_to S T s x
unfolding word_refers
word-named S T s w x n p = rw (ne_eqb w 0 n, p)

-- a number by what the code finds
row_is : (v : ℕ) {i : ℕ} → Some i ≡ row_of v → v ≡ suc i
row_is zero e = absurd (cc)
row_is (suc v) e = cc

none_is : (v : ℕ) → None ≡ row_of v → v ≡ 0
none_is zero e = refl
none_is (suc v) e = absurd (cc)

built_is : (p l : ℕ) {b : ℕ} → Some b ≡ if_any p → Some b ≡ if_any (reference p l)
built_is zero l e = absurd (cc)
built_is (suc p) l e = e

built_none : (p : ℕ) → None ≡ if_any p → p ≡ 0
built_none zero e = refl
built_none (suc p) e = absurd (cc)

any_some : (n : ℕ) → 0 < n → Some n ≡ if_any n
any_some zero h = absurd (omega arith)
any_some (suc n) h = refl

by_row : (r : ℕ) → Some (r + first_row) ≡ if_any (reference 0 (suc r))
by_row r = let e : r + first_row ≡ reference 0 (suc r) = omega arith in any_some (r + first_row) (omega arith) ∙ ap if_any e

module _ {S U heads links : List ℕ} {s : Bool} {w : ℕ} where
  pub ref-none : w ≡ 0 → Refers S U heads links s w None
  unfolding word_refers
  ref-none e = record { told = λ T k h. rw e }

  module _ (n : w ≡ 0 → ⊥) {x : List ℕ} (p : x ≡ name_in S w) where
    ref-so : {r : Option ℕ} → ((T : List ℕ) → DefinitionIndex S T heads links → Heads T U → r ≡ if_any (refers_to S T s x)) → Refers S U heads links s w r
    ref-so f = record { told = λ T k h. f T k h ∙ sym (ap if_any (word-named S T s w x n p)) }

    module _ (e : s ≡ true) {r : Option ℕ} (f : Finds S U heads links true x r) where
      pub ref-struct : {i : ℕ} → r ≡ Some i → Refers S U heads links s w (Some (i + 1))
      ref-struct {i} q = ref-so (λ T k h. rw (e, row_is (find_row S T true x) (sym q ∙ f.told T k h), add-one i))

      pub ref_no_struct : r ≡ None → Refers S U heads links s w None
      ref_no_struct q = ref-so (λ T k h. rw (e, none_is (find_row S T true x) (sym q ∙ f.told T k h)))

    module _ (e : s ≡ false) {b : Option ℕ} (q : b ≡ if_any (place_in built_ins x)) where
      pub ref-built_in : {i : ℕ} → b ≡ Some i → Refers S U heads links s w (Some i)
      ref-built_in z = ref-so (λ T k h. rw e (built_is (place_in built_ins x) (find_row S T false x) (sym z ∙ q)))

      module _ (z : b ≡ None) {r : Option ℕ} (f : Finds S U heads links false x r) where
        pub ref_missing : r ≡ None → Refers S U heads links s w None
        ref_missing y = ref-so (λ T k h. rw (e, built_none (place_in built_ins x) (sym z ∙ q), none_is (find_row S T false x) (sym y ∙ f.told T k h)))

        pub ref-row : {i : ℕ} → r ≡ Some i → Refers S U heads links s w (Some (i + first_row))
        ref-row {i} y = ref-so (λ T k h. rw (e, built_none (place_in built_ins x) (sym z ∙ q), row_is (find_row S T false x) (sym y ∙ f.told T k h)) (by_row i))
