-- What a sound table gives, as plain statements about rows, links, names and kinds.
-- The idea: each part of `sound` is read off row by row; along a chain of bases names stay distinct by `apart-append`.
use Prim.Native.Nat.{ℕ, zero, suc, ◌+◌, ◌-◌, ◌*◌, ◌%◌, ◌≤◌, ◌<◌, zero-le}
use mathlib.Core.Path.{◌≡◌, refl, sym, ◌∙◌, subst}
use mathlib.Core.Bool.{Bool, true, false, not, ◌&&◌, ◌||◌}
use mathlib.Core.Logic.{⊎_elim}
use mathlib.Core.List.{List, [], ◌++◌, Memᴰ}
use mathlib.Core.Option.{Option, none, some}
use native.Mathlib.Omega.{arith}
use lib.Dec.{eqb, ltb}
use lib.ListN.{length, get_or-eq_default}
use borrow.Author.Tests.{eq-eqb, eqb-true, ltb-true, ltb-false, leb-true}
use Rattle.grammar.specs.Limits.{row_words, chain_structs, table_rows}
use Rattle.grammar.specs.Notation.{same, all, apart}
use Rattle.grammar.specs.Tree.{Kind}
use Rattle.rules.specs.Kinds.{struct_kind, union_kind, branch_kind, alternate_kind, command_kind}
use Rattle.rules.specs.Types.{column, same_kind}
use Rattle.rules.specs.Names.{clash}
use Rattle.rules.specs.Rows.{up_from, row_count, kind, is_enum, is_struct, is_union, is_alternate, is_command, base, type_ref, union_base, discriminator, branch_struct, data_struct, next, unnamed, owns, children, members, after, type_kind, name_of, owner_link}
use Rattle.rules.specs.Rules.{every_row, names_of, is, same_kinds, kinds_of, no_clash, those, is_definition, definition_names, distinct_names, good_chains, good_unions, kinds_fit, good_alternates, chain_fits, union_fits, alternate_fits, discriminator_fits, branch_fits}
use Rattle.rules.specs.Envelope.{Names}
use Rattle.rules.specs.Sound.{sound, rest_zero, struct_linked, union_linked, data_linked, command_linked, references_fit, to_struct}
use Rattle.rules.proofs.Lists.{none-not-some, and_left, and_right, and_of, or_cases, or_right, or_implies, not_of, all_true, is_true, is_at, in_those, in_up_from, in_map, apart-only, apart_injective}
use Rattle.rules.proofs.Clashes.{apart-same, apart-append}
use Rattle.rules.proofs.TableRows.{no_children, unnamed-struct, owned-struct, fit-child, laid_fit, members_agree}

-- 0, or a link to a struct
abbrev pub StructLink : List ℕ → ℕ → Type 0
StructLink T l = (s : ℕ) → l ≡ suc s → kind T s ≡ struct_kind

pub record SoundFacts (S T : List ℕ) : Type 0 where
  -- a row of some kind is one of the table's, and its children are of the kind after its own
  pub few_rows : row_count T ≤ table_rows
  pub row_there : (r : ℕ) → (kind T r ≡ 0 → ⊥) → r < row_count T
  pub child_kind : (r c : ℕ) → Memᴰ c (children T r) → kind T c ≡ suc (kind T r)
  -- links
  pub base_link : (r : ℕ) → kind T r ≡ struct_kind → StructLink T (base T r)
  pub union_link : (r : ℕ) → kind T r ≡ union_kind → StructLink T (union_base T r)
  pub command_link : (r : ℕ) → kind T r ≡ command_kind → StructLink T (data_struct T r)
  pub branch_linked : (r b : ℕ) → kind T r ≡ union_kind → Memᴰ b (children T r) → StructLink T (branch_struct T b)
  pub discriminator_link : (r : ℕ) → kind T r ≡ union_kind → (d : ℕ) × (discriminator T r ≡ suc d)
  -- a struct's chain ends in time, with names apart
  pub chain_good : (r : ℕ) → kind T r ≡ struct_kind → chain_fits S T r ≡ true
  -- names that one object may have as keys, and names of one list
  pub children_apart : (r : ℕ) → apart same (names_of S T (children T r)) ≡ true
  pub struct_apart : (r : ℕ) (ms : List ℕ) → kind T r ≡ struct_kind → members T chain_structs (suc r) ≡ some ms → apart same (names_of S T ms) ≡ true
  pub union_apart : (r : ℕ) (ms : List ℕ) → kind T r ≡ union_kind → members T chain_structs (union_base T r) ≡ some ms → apart same (names_of S T ms) ≡ true
  pub branch_apart : (r b : ℕ) (ms bs : List ℕ) → kind T r ≡ union_kind → members T chain_structs (union_base T r) ≡ some ms → Memᴰ b (children T r)
      → members T chain_structs (branch_struct T b) ≡ some bs → apart same (names_of S T (ms ++ bs)) ≡ true
  -- alternatives
  pub has_kind : (r c : ℕ) → kind T r ≡ alternate_kind → Memᴰ c (children T r) → (k : Kind) × (type_kind T (type_ref T c) ≡ some k)
  pub one_of_kind : (r c c' : ℕ) (k : Kind) → kind T r ≡ alternate_kind → Memᴰ c (children T r) → Memᴰ c' (children T r)
      → type_kind T (type_ref T c) ≡ some k → type_kind T (type_ref T c') ≡ some k → c ≡ c'
  -- commands
  pub one_command : (x : List ℕ) (c c' : ℕ) → Names S T x c → Names S T x c' → c ≡ c'

module _ (T : List ℕ) where
  -- a test that every row passes
  pub every : (f : ℕ → Bool) → every_row T f ≡ true → (r : ℕ) → r < row_count T → f r ≡ true
  every f e r l = all_true f (up_from 0 (row_count T)) e r (in_up_from (row_count T) 0 r zero-le (omega arith))

  pub every_one : (test fits : ℕ → Bool) → every_row T (λ x. not (test x) || fits x) ≡ true → (r : ℕ) → r < row_count T → test r ≡ true → fits r ≡ true
  every_one test fits e r l t = or_implies (test r) (fits r) (every (λ x. not (test x) || fits x) e r l) t

  -- what links say
  pub to_struct_lem : (l : ℕ) → to_struct T l ≡ true → StructLink T l
  to_struct_lem l e s p =
      let z : l - 1 ≡ s = omega arith in
      subst (λ x. kind T x ≡ struct_kind) z (eqb-true (kind T (l - 1)) struct_kind (search (and_left, and_right)))

  pub to-owned : (r : ℕ) → owns T r ≡ true → StructLink T (owner_link T r)
  unfolding owns
  to-owned r e s p =
      let z : owner_link T r ≡ suc (next T r) = eqb-true (owner_link T r) (suc (next T r)) (search (and_left, and_right)) in
      let y : next T r ≡ s = omega arith in
      subst (λ x. kind T x ≡ struct_kind) y (owned-struct T r e)

  pub base-refers : (r : ℕ) → references_fit T r ≡ true → kind T r ≡ struct_kind → StructLink T (base T r)
  base-refers r f k s p =
      ⊎_elim (λ e. let z : base T r ≡ 0 = eqb-true (base T r) 0 e in absurd (omega arith)) (λ e. to_struct_lem (base T r) e s p)
      (or_cases (eqb (base T r) 0) (to_struct T (base T r)) (or_implies (is_struct T r) (struct_linked T r) (search (and_left, and_right)) (eq-eqb (kind T r) struct_kind k)))

module _ (S T : List ℕ) (h : sound S T ≡ true) where
  past_end : (r : ℕ) → row_count T ≤ r → kind T r ≡ 0
  unfolding sound
  past_end r l =
      let w : length T % row_words ≡ 0 = eqb-true _ _ (search (and_left, and_right) depth 13) in
      get_or-eq_default T 0 {n = row_words * r + (1 - 1)} (omega arith)

  there : (r : ℕ) → (kind T r ≡ 0 → ⊥) → r < row_count T
  there r n = go (ltb r (row_count T)) refl
    where
      go : (b : Bool) → ltb r (row_count T) ≡ b → r < row_count T
      go true e = ltb-true r (row_count T) e
      go false e = absurd (n (past_end r (ltb-false r (row_count T) e)))

  fit : (r c : ℕ) → Memᴰ c (children T r) → kind T c ≡ suc (kind T r)
  unfolding sound
  fit r c m = go (ltb r (row_count T)) refl
    where
      go : (b : Bool) → ltb r (row_count T) ≡ b → kind T c ≡ suc (kind T r)
      go true e = fit-child T r (laid_fit T (row_count T) 0 (search (and_left, and_right) depth 13) r zero-le (ltb-true r (row_count T) e)) c m
      go false e = let z : kind T r ≡ 0 = past_end r (ltb-false r (row_count T) e) in elim (subst (Memᴰ c) (no_children T r (omega arith)) m) [ ]

  -- references
  refers : (r : ℕ) → (kind T r ≡ 0 → ⊥) → references_fit T r ≡ true
  unfolding sound
  refers r n = and_right (rest_zero T r) (references_fit T r) (every T (λ x. rest_zero T x && references_fit T x) (search (and_left, and_right) depth 13) r (there r n))

  base-to : (r : ℕ) → kind T r ≡ struct_kind → StructLink T (base T r)
  base-to r k = base-refers T r (refers r (omega arith)) k

  -- what a union refers to
  union-refers : (r : ℕ) → kind T r ≡ union_kind → union_linked T r ≡ true
  union-refers r k =
      let f : references_fit T r ≡ true = refers r (omega arith) in
      or_implies (is_union T r) (union_linked T r) (search (and_left, and_right)) (eq-eqb (kind T r) union_kind k)

  union-to : (r : ℕ) → kind T r ≡ union_kind → StructLink T (union_base T r)
  unfolding union_linked
  union-to r k =
      let f : union_linked T r ≡ true = union-refers r k in
      ⊎_elim (to-owned T r) (to_struct_lem T (union_base T r))
      (or_cases (owns T r) (to_struct T (union_base T r)) (search (and_left, and_right)))

  -- what a command refers to
  command-to : (r : ℕ) → kind T r ≡ command_kind → StructLink T (data_struct T r)
  unfolding command_linked data_linked
  command-to r k =
      let f : references_fit T r ≡ true = refers r (omega arith) in
      let g : command_linked T r ≡ true = or_implies (is_command T r) (command_linked T r) (search (and_left, and_right)) (eq-eqb (kind T r) command_kind k) in
      ⊎_elim (λ o. ⊎_elim (λ (z : eqb (data_struct T r) 0 ≡ true) s e. let y : data_struct T r ≡ 0 = eqb-true (data_struct T r) 0 z in absurd (omega arith)) (to-owned T r) (or_cases (eqb (data_struct T r) 0) (owns T r) o))
      (to_struct_lem T (data_struct T r)) (or_cases (eqb (data_struct T r) 0 || owns T r) (to_struct T (data_struct T r)) (search (and_left, and_right)))

  few : row_count T ≤ table_rows
  unfolding sound
  few = leb-true (row_count T) table_rows (search (and_left, and_right) depth 14)

  discriminator-to : (r : ℕ) → kind T r ≡ union_kind → (d : ℕ) × (discriminator T r ≡ suc d)
  unfolding union_linked
  discriminator-to r k =
      let f : union_linked T r ≡ true = union-refers r k in
      let z : 0 < discriminator T r = ltb-true 0 (discriminator T r) (search (and_left, and_right)) in
      (discriminator T r - 1, omega arith)

  branch_to : (r b : ℕ) → kind T r ≡ union_kind → Memᴰ b (children T r) → StructLink T (branch_struct T b)
  branch_to r b k m =
      let k' : kind T b ≡ suc (kind T r) = fit r b m in
      let f : references_fit T b ≡ true = refers b (omega arith) in
      to_struct_lem T (branch_struct T b)
      (or_implies (eqb (kind T b) branch_kind) (to_struct T (branch_struct T b)) (search (and_left, and_right)) (eq-eqb (kind T b) branch_kind (omega arith)))

  -- names
  own_apart_lem : (r : ℕ) → apart clash (names_of S T (children T r)) ≡ true
  unfolding sound distinct_names
  own_apart_lem r = go (ltb r (row_count T)) refl
    where
      go : (b : Bool) → ltb r (row_count T) ≡ b → apart clash (names_of S T (children T r)) ≡ true
      go true e = every T (λ x. apart clash (names_of S T (children T x))) (search (and_left, and_right) depth 15) r (ltb-true r (row_count T) e)
      go false e = let z : kind T r ≡ 0 = past_end r (ltb-false r (row_count T) e) in rw (no_children T r (omega arith))

  -- what a struct inherits and what it has of its own do not clash
  inherits : (r : ℕ) → kind T r ≡ struct_kind → chain_fits S T r ≡ true
  unfolding sound good_chains
  inherits r k = every_one T (is_struct T) (chain_fits S T) (search (and_left, and_right) depth 13) r (there r (omega arith)) (eq-eqb (kind T r) struct_kind k)

  chain-apart : (n l : ℕ) → StructLink T l → (ms : List ℕ) → members T n l ≡ some ms → apart clash (names_of S T ms) ≡ true
  unfolding members
  chain-apart zero zero f ms e = let z : ms ≡ [] = cc in rw z
  chain-apart zero (suc r) f ms e = absurd (none-not-some e)
  chain-apart (suc n) zero f ms e = let z : ms ≡ [] = cc in rw z
  chain-apart (suc n) (suc r) f ms e = go (members T n (base T r)) refl e (chain-apart n (base T r) (base-to r (f r refl)))
    where
      go : (x : Option (List ℕ)) → members T n (base T r) ≡ x → after x (children T r) ≡ some ms
          → ((xs : List ℕ) → members T n (base T r) ≡ some xs → apart clash (names_of S T xs) ≡ true) → apart clash (names_of S T ms) ≡ true
      go none p e more = absurd (none-not-some e)
      go (some inherited) p e more =
          let y : ms ≡ inherited ++ children T r = cc in
          let c = is_true (members T (chain_structs - 1) (base T r)) (λ xs. no_clash (names_of S T xs) (names_of S T (children T r))) (inherits r (f r refl)) in
          let z : c.0 ≡ inherited = members_agree T (chain_structs - 1) n (base T r) c.0 inherited c.1 p in
          let k : no_clash (names_of S T inherited) (names_of S T (children T r)) ≡ true = rw z at c.2 in
          rw y (apart-append (name_of S T) inherited (children T r) (more inherited p) (own_apart_lem r) k)

  -- a union's branches repeat no member of its base
  union_fits_lem : (r : ℕ) → kind T r ≡ union_kind → union_fits S T r ≡ true
  unfolding sound good_unions
  union_fits_lem r k = every_one T (is_union T) (union_fits S T) (search (and_left, and_right) depth 13) r (there r (omega arith)) (eq-eqb (kind T r) union_kind k)

  branch_fits_lem : (r b : ℕ) (ms : List ℕ) → kind T r ≡ union_kind → members T chain_structs (union_base T r) ≡ some ms → Memᴰ b (children T r) → branch_fits S T r ms b ≡ true
  branch_fits_lem r b ms k e m =
      let u : union_fits S T r ≡ true = union_fits_lem r k in
      let fits : List ℕ → Bool = λ xs. discriminator_fits T r xs && all (branch_fits S T r xs) (children T r) in
      let f : fits ms ≡ true = is_at (members T chain_structs (union_base T r)) fits ms (search (and_left, and_right)) e in
      all_true (branch_fits S T r ms) (children T r) (and_right (discriminator_fits T r ms) (all (branch_fits S T r ms) (children T r)) f) b m

  with_branch : (r b : ℕ) (ms bs : List ℕ) → kind T r ≡ union_kind → members T chain_structs (union_base T r) ≡ some ms → Memᴰ b (children T r)
      → members T chain_structs (branch_struct T b) ≡ some bs → apart clash (names_of S T (ms ++ bs)) ≡ true
  with_branch r b ms bs k e m f =
      let t : branch_fits S T r ms b ≡ true = branch_fits_lem r b ms k e m in
      apart-append (name_of S T) ms bs (chain-apart chain_structs (union_base T r) (union-to r k) ms e)
      (chain-apart chain_structs (branch_struct T b) (branch_to r b k m) bs f)
      (is_at (members T chain_structs (branch_struct T b)) (λ xs. no_clash (names_of S T ms) (names_of S T xs)) bs (search (and_left, and_right)) f)

  -- alternatives
  pub alternate_fits_lem : (r : ℕ) → kind T r ≡ alternate_kind → alternate_fits S T r ≡ true
  unfolding sound good_alternates
  alternate_fits_lem r k = every_one T (is_alternate T) (alternate_fits S T) (search (and_left, and_right) depth 13) r (there r (omega arith)) (eq-eqb (kind T r) alternate_kind k)

  kind_of_lem : (r c : ℕ) → kind T r ≡ alternate_kind → Memᴰ c (children T r) → (k : Kind) × (type_kind T (type_ref T c) ≡ some k)
  unfolding kinds_fit
  kind_of_lem r c e m =
      let f : alternate_fits S T r ≡ true = alternate_fits_lem r e in
      let k : Memᴰ (type_kind T (type_ref T c)) (kinds_of T (children T r)) = in_map (λ x. type_kind T (type_ref T x)) (children T r) c m in
      let g = all_true (λ k. is k (λ _. true)) (kinds_of T (children T r)) (search (and_left, and_right)) (type_kind T (type_ref T c)) k in
      let i = is_true (type_kind T (type_ref T c)) (λ (k : Kind). true) g in
      (i.0, i.1)

  of_one-kind : (r c c' : ℕ) (k : Kind) → kind T r ≡ alternate_kind → Memᴰ c (children T r) → Memᴰ c' (children T r)
      → type_kind T (type_ref T c) ≡ some k → type_kind T (type_ref T c') ≡ some k → c ≡ c'
  unfolding kinds_fit
  of_one-kind r c c' k e m m' p q =
      let f : alternate_fits S T r ≡ true = alternate_fits_lem r e in
      let z : same_kind k k ≡ true = eq-eqb (column k) (column k) refl in
      apart-only (λ x. type_kind T (type_ref T x)) same_kinds (children T r) (search (and_left, and_right)) c c' m m' (rw (p, q) z) (rw (p, q) z)

  -- commands
  definition_rows : List ℕ
  definition_rows = those (is_definition T) (up_from 0 (row_count T))

  a_definition : (x : List ℕ) (c : ℕ) → Names S T x c → Memᴰ c definition_rows
  unfolding definition_rows
  a_definition x c n =
      in_those (is_definition T) (up_from 0 (row_count T)) c (in_up_from (row_count T) 0 c zero-le (omega (arith, n.row)))
      (and_of (is_enum T c || is_struct T c || is_union T c || is_alternate T c || is_command T c) (not (unnamed T c))
      (or_right (is_enum T c || is_struct T c || is_union T c || is_alternate T c) (is_command T c) (eq-eqb (kind T c) command_kind n.command))
      (not_of (unnamed T c) (λ i. let z = unnamed-struct T c i in omega (arith, n.command))))

  of_one-name : (x : List ℕ) (c c' : ℕ) → Names S T x c → Names S T x c' → c ≡ c'
  unfolding sound distinct_names definition_rows
  of_one-name x c c' n n' =
      apart_injective (name_of S T) definition_rows (apart-same (definition_names S T) (search (and_left, and_right) depth 15)) c c' (a_definition x c n) (a_definition x c' n')
      (n.name_is ∙ sym n'.name_is)

pub sound-facts : (S T : List ℕ) → sound S T ≡ true → SoundFacts S T
sound-facts S T h = record {
  few_rows = few S T h;
  row_there = there S T h;
  child_kind = fit S T h;
  base_link = base-to S T h;
  union_link = union-to S T h;
  command_link = command-to S T h;
  branch_linked = branch_to S T h;
  discriminator_link = discriminator-to S T h;
  chain_good = inherits S T h;
  children_apart = λ r. apart-same (names_of S T (children T r)) (own_apart_lem S T h r);
  struct_apart = λ r ms k e. apart-same (names_of S T ms) (chain-apart S T h chain_structs (suc r) (λ s q. subst (λ x. kind T x ≡ struct_kind) (let z : r ≡ s = cc in z) k) ms e);
  union_apart = λ r ms k e. apart-same (names_of S T ms) (chain-apart S T h chain_structs (union_base T r) (union-to S T h r k) ms e);
  branch_apart = λ r b ms bs k e m f. apart-same (names_of S T (ms ++ bs)) (with_branch S T h r b ms bs k e m f);
  has_kind = kind_of_lem S T h;
  one_of_kind = of_one-kind S T h;
  one_command = of_one-name S T h;
}
