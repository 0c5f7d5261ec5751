-- Discriminators: a child by its name, a member by a walk up the chain of bases, and words put union by union.
-- The idea: the first of what is inherited and of one's own is the first of both lists in a row.
use Prim.Native.Nat.{ℕ, zero, suc, ◌+◌, ◌-◌, ◌*◌, ◌≤◌, ◌<◌, ◌^◌}
use mathlib.Core.Path.{◌≡◌, refl, sym, ap, ap₂, ◌∙◌}
use mathlib.Core.Bool.{Bool, true, false, not, cond}
use mathlib.Core.List.{List, [], ◌∷◌, ◌++◌}
use mathlib.Core.Option.{Option, none, some}
use native.Mathlib.Numerals.{add-one}
use native.Mathlib.Omega.{arith}
use Rattle.std.specs.Prelude.{Some, None, is_some, Result, Ok, Err, min}
use Rattle.std.specs.Result.{OkIff, result_unwrap_or}
use Rattle.std.specs.Prelude as Std
use Rattle.rows.proofs.WalkRuns.{first_that}
use Rattle.references.specs.Lookups.{row_of}
use lib.Dec.{eqb}
use lib.ListN.{length, get_or, set, length-set}
use borrow.Author.Tests.{ne_eqb, lt-ltb, le-ltb}
use Rattle.grammar.specs.Limits.{chain_structs, row_words}
use Rattle.rules.specs.Kinds.{union_kind}
use Rattle.rules.specs.Names.{same_name}
use Rattle.rules.specs.Rows.{kind, base, union_base, children, members, after, name_of}
use Rattle.rules.specs.Rules.{is}
use Rattle.rules.specs.SchemaTable.{member_in, member_in_chain}
use Rattle.rules.proofs.Lists.{clash, none-not-some}
use Rattle.table.specs.Chains.{chain_ends}
use Rattle.rows.proofs.Walks.{granted, denied}
use Rattle.table.proofs.ChainLaws.{ends_is}
use Rattle.references.specs.NamedWords.{discriminator_word}
use Rattle.references.specs.Lookups.{name_in}
use Rattle.references.specs.Discriminators.{or_else, member_link, narrow, discriminator_found, put_discriminator, put_discriminators}

-- a link that fits in a word
pub narrow-fits : (l : ℕ) → l < 2 ^ 32 → l ≡ narrow l
narrow-fits l h = rw (lt-ltb l (2 ^ 32) h)

-- a row's link as a word, if it fits
pub link_word : {E : Type 0} (m : ℕ) {k v : ℕ} (r : Result ℕ E) → k ≡ min (m + 1) 18446744073709551615 → OkIff r (k < 4294967296) k → v ≡ result_unwrap_or r 0 → v ≡ narrow (suc m)
link_word m {k} (Ok x) a b e =
    let f : suc m < 2 ^ 32 = omega arith in
    let g : k ≡ suc m = omega arith in
    e ∙ b.1 ∙ g ∙ narrow-fits (suc m) f
link_word m {k} (Err d) a b e =
    let f : 2 ^ 32 ≤ suc m = omega arith in
    e ∙ rw (le-ltb (suc m) (2 ^ 32) f)

-- the first of some rows that has the name
pub child_named : (S T x ms : List ℕ) → first_that (λ m. same_name x (name_of S T m)) ms ≡ row_of (member_in S T x ms)
child_named S T x [] = refl
child_named S T x (m ∷ ms) = go (same_name x (name_of S T m)) (child_named S T x ms)
  where
    go : (b : Bool) → first_that (λ m. same_name x (name_of S T m)) ms ≡ row_of (member_in S T x ms)
        → cond b (Some m) (first_that (λ m. same_name x (name_of S T m)) ms) ≡ row_of (cond b (suc m) (member_in S T x ms))
    go true e = refl
    go false e = e

-- the walk up the chain, by structs left and link
module _ (S T : List ℕ) (n l : ℕ) (x : List ℕ) where
  pub walk_none : l ≡ 0 → None ≡ row_of (member_link S T n l x)
  unfolding member_link
  walk_none e = ap row_of (go n l e)
    where
      go : (n l : ℕ) → l ≡ 0 → 0 ≡ member_link S T n l x
      go zero zero e = refl
      go zero (suc l) e = refl
      go (suc n) zero e = refl
      go (suc n) (suc l) e = absurd (omega arith)

  pub walk_out : n ≡ 0 → None ≡ row_of (member_link S T n l x)
  unfolding member_link
  walk_out e = ap row_of (go n l e)
    where
      go : (n l : ℕ) → n ≡ 0 → 0 ≡ member_link S T n l x
      go zero zero e = refl
      go zero (suc l) e = refl
      go (suc n) l e = absurd (omega arith)

  module _ (h : l ≡ 0 → ⊥) (k : n ≡ 0 → ⊥) {link : ℕ} (p : link ≡ base T (l - 1)) where
    walk-on : member_link S T n l x ≡ or_else (member_link S T (n - 1) link x) (member_in S T x (children T (l - 1)))
    unfolding member_link
    walk-on =
        let s : l ≡ suc (l - 1) = omega arith in
        let m : n ≡ suc (n - 1) = omega arith in
        ap₂ (λ i j. member_link S T i j x) m s ∙ rw (← p)

    pub walk-inherited : {r : Std.Option ℕ} → r ≡ row_of (member_link S T (n - 1) link x) → is_some r ≡ true → r ≡ row_of (member_link S T n l x)
    walk-inherited {r} e z = e ∙ ap row_of (sym (walk-on ∙ go (member_link S T (n - 1) link x) (ap is_some (sym e) ∙ z)))
      where
        go : (a : ℕ) → is_some (row_of a) ≡ true → or_else a (member_in S T x (children T (l - 1))) ≡ a
        go zero z = absurd (cc)
        go (suc a) z = refl

    pub walk-own : {r o : Std.Option ℕ} → r ≡ row_of (member_link S T (n - 1) link x) → is_some r ≡ false → o ≡ row_of (member_in S T x (children T (l - 1))) → o ≡ row_of (member_link S T n l x)
    walk-own {r} e z q = q ∙ ap row_of (sym (walk-on ∙ go (member_link S T (n - 1) link x) (ap is_some (sym e) ∙ z)))
      where
        go : (a : ℕ) → is_some (row_of a) ≡ false → or_else a (member_in S T x (children T (l - 1))) ≡ member_in S T x (children T (l - 1))
        go zero z = refl
        go (suc a) z = absurd (cc)

-- where the members are found, the walk finds the one of that name
module _ (S T x : List ℕ) where
  pub member-append : (a b : List ℕ) → member_in S T x (a ++ b) ≡ or_else (member_in S T x a) (member_in S T x b)
  member-append [] b = refl
  member-append (m ∷ a) b = go (same_name x (name_of S T m)) (member-append a b)
    where
      go : (t : Bool) → member_in S T x (a ++ b) ≡ or_else (member_in S T x a) (member_in S T x b)
          → cond t (suc m) (member_in S T x (a ++ b)) ≡ or_else (cond t (suc m) (member_in S T x a)) (member_in S T x b)
      go true e = refl
      go false e = e

  pub member_link-is : (n l : ℕ) (ms : List ℕ) → members T n l ≡ some ms → member_link S T n l x ≡ member_in S T x ms
  unfolding members member_link
  member_link-is zero zero ms e = let z : ms ≡ [] = cc in rw z
  member_link-is zero (suc r) ms e = none-not-some e
  member_link-is (suc n) zero ms e = let z : ms ≡ [] = cc in rw z
  member_link-is (suc n) (suc r) ms e = go (members T n (base T r)) refl e (member_link-is n (base T r))
    where
      go : (o : Option (List ℕ)) → members T n (base T r) ≡ o → after o (children T r) ≡ some ms
          → ((ns : List ℕ) → members T n (base T r) ≡ some ns → member_link S T n (base T r) x ≡ member_in S T x ns)
          → or_else (member_link S T n (base T r) x) (member_in S T x (children T r)) ≡ member_in S T x ms
      go none p q k = none-not-some q
      go (some ns) p q k = let z : ms ≡ ns ++ children T r = cc in rw (z, k ns p) (sym (member-append ns (children T r)))

-- the discriminator of union r
module _ (S U : List ℕ) (r : ℕ) {b : ℕ} {t : Bool} (p : b ≡ union_base U r) (q : t ≡ chain_ends U chain_structs b) where
  ends : is (members U chain_structs (union_base U r)) (λ _. true) ≡ t
  ends = sym (q ∙ ap (chain_ends U chain_structs) p ∙ ends_is U chain_structs (union_base U r))

  pub discriminator_endless : not t ≡ true → 0 ≡ discriminator_found S r U
  unfolding discriminator_found
  discriminator_endless n = go (members U chain_structs (union_base U r)) refl
    where
      go : (o : Option (List ℕ)) → members U chain_structs (union_base U r) ≡ o → 0 ≡ narrow (member_in_chain S U (name_in S (get_or U (row_words * r + discriminator_word) 0)) o)
      go none e = refl
      go (some ms) e = absurd (clash refl (ap (λ (o : Option (List ℕ)). is o (λ _. true)) (sym e) ∙ ends ∙ denied refl n))

  module _ (n : not t ≡ false) {w : ℕ} {l : Std.Option ℕ} {x : List ℕ} (e : w ≡ get_or U (row_words * r + discriminator_word) 0) (f : x ≡ name_in S w) (g : l ≡ row_of (member_link S U chain_structs b x)) where
    discriminator-so : (i : ℕ) → l ≡ row_of i → narrow i ≡ discriminator_found S r U
    unfolding discriminator_found
    discriminator-so i h =
        let z : member_link S U chain_structs b x ≡ member_in_chain S U (name_in S (get_or U (row_words * r + discriminator_word) 0)) (members U chain_structs (union_base U r)) = rw (← e, ← f) (ap (λ b. member_link S U chain_structs b x) p ∙ go (members U chain_structs (union_base U r)) refl) in
        ap narrow (same_row i (member_link S U chain_structs b x) (sym h ∙ g) ∙ z)
      where
        same_row : (i j : ℕ) → row_of i ≡ row_of j → i ≡ j
        same_row zero zero q = refl
        same_row zero (suc j) q = absurd (cc)
        same_row (suc i) zero q = absurd (cc)
        same_row (suc i) (suc j) q = cc

        go : (o : Option (List ℕ)) → members U chain_structs (union_base U r) ≡ o → member_link S U chain_structs (union_base U r) x ≡ member_in_chain S U x o
        go none e = absurd (clash (granted refl n) (sym ends ∙ ap (λ (o : Option (List ℕ)). is o (λ _. true)) e))
        go (some ms) e = member_link-is S U x chain_structs (union_base U r) ms e

    pub discriminator_none : l ≡ None → 0 ≡ discriminator_found S r U
    discriminator_none h = discriminator-so 0 h

    pub discriminator_found_lem : {m v : ℕ} → l ≡ Some m → v ≡ narrow (suc m) → v ≡ discriminator_found S r U
    discriminator_found_lem {m} h q = q ∙ discriminator-so (suc m) h

-- union by union
module _ (S U : List ℕ) (r : ℕ) {k : ℕ} (p : k ≡ kind U r) where
  pub union-put : k ≡ union_kind → {v : ℕ} → v ≡ discriminator_found S r U → set U (row_words * r + discriminator_word) v ≡ put_discriminator S r U
  unfolding put_discriminator
  union-put e q = rw (← p, e, q)

  pub other-put : (k ≡ union_kind → ⊥) → U ≡ put_discriminator S r U
  unfolding put_discriminator
  other-put n = rw (← p, ne_eqb k union_kind n)

pub discriminators_start : (S U : List ℕ) → U ≡ put_discriminators S 0 U
unfolding put_discriminators
discriminators_start S U = refl

pub discriminators_next : (S U : List ℕ) (r : ℕ) {new mid : List ℕ} → mid ≡ put_discriminators S r U → new ≡ put_discriminator S r mid → new ≡ put_discriminators S (r + 1) U
unfolding put_discriminators
discriminators_next S U r p q = rw (add-one r) (q ∙ ap (put_discriminator S r) p)

pub length_discriminators : (S U : List ℕ) (r : ℕ) → length (put_discriminators S r U) ≡ length U
unfolding put_discriminators put_discriminator
length_discriminators S U zero = refl
length_discriminators S U (suc r) = go (eqb (kind (put_discriminators S r U) r) union_kind) ∙ length_discriminators S U r
  where
    go : (b : Bool) → length (cond b (set (put_discriminators S r U) (row_words * r + discriminator_word) (discriminator_found S r (put_discriminators S r U))) (put_discriminators S r U)) ≡ length (put_discriminators S r U)
    go true = length-set (put_discriminators S r U) (row_words * r + discriminator_word) (discriminator_found S r (put_discriminators S r U))
    go false = refl
