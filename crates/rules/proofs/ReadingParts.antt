-- The pieces of the reading function, in any table: by which type a value is read, what fits there, and what a piece that gives something says.
-- The idea: each piece is a test on the type reference, so it is computed where the reference is known; a value read at a type of one JSON kind has that kind.
use Prim.Native.Nat.{ℕ, zero, suc, ◌+◌, ◌-◌, ◌≤◌, ◌<◌}
use mathlib.Core.Path.{◌≡◌, refl, sym, ◌∙◌, subst}
use mathlib.Core.Bool.{Bool, true, false, cond, ◌&&◌}
use mathlib.Core.List.{List, [], ◌∷◌, ◌++◌, Memᴰ}
use mathlib.Core.Option.{Option, none, some}
use native.Mathlib.Omega.{arith}
use lib.Dec.{eqb, ltb, leb}
use borrow.Author.Tests.{ne_eqb, eqb-true, le-ltb, le-leb, ltb-false, leb-true}
use Rattle.grammar.specs.Limits.{chain_structs}
use Rattle.grammar.specs.Tree.{Scalar, Json, Fields, Kind, kind_of}
use Rattle.grammar.specs.Tree.Scalar.{null, bool, num, str}
use Rattle.grammar.specs.Tree.Json.{leaf, arr, obj}
use Rattle.grammar.specs.Tree.Kind.{object, string}
use Rattle.rules.specs.Kinds.{enum_kind, struct_kind, union_kind, alternate_kind}
use Rattle.rules.specs.Types.{first_row, is_built_in, built_in_takes}
use Rattle.rules.specs.Values.{value_at, any_of}
use Rattle.rules.specs.Rows.{kind, is_enum, is_struct, is_union, is_alternate, union_base, discriminator, children, members, name_of, type_kind}
use Rattle.rules.specs.Rules.{names_of}
use Rattle.rules.specs.Readings.{Typed, typed, Reads}
use Rattle.rules.specs.Readings.Reads.{built_in, enum, struct, no_type, union, alternate}
use Rattle.rules.specs.Serving.ReadingOf.{under, then, append, of_kind, from_alternatives, found, enum_has, chosen, members_at, type_choice, plain_reading}
use Rattle.rules.specs.Serving.ReadingOf.TypeChoice.{direct, alternative}
use Rattle.rules.proofs.Lists.{clash, none-not-some, and_left, and_right, any_of-true, of_map}
use Rattle.rules.proofs.Grid.{grid-takes, built_in_kind_lem, row_kind_lem, takes_same}

-- at a built-in a value of any shape is read by grid and range
pub plain-built_in : (passes : Bool) (S T : List ℕ) (j : Json) (t f : ℕ) → eqb f 0 && is_built_in t ≡ true → plain_reading passes S T j t f ≡ cond (built_in_takes t j) (some (typed j t f ∷ [])) none
plain-built_in passes S T (leaf a e v) t f h = rw h
plain-built_in passes S T (arr a e js) t f h = rw h
plain-built_in passes S T (obj a e fs) t f h = rw h

-- a piece that gives something
pub cond-some : {A : Type 0} (b : Bool) (o : Option A) (y : A) → cond b o none ≡ some y → (b ≡ true) × (o ≡ some y)
cond-some true o y h = (refl, h)
cond-some false o y h = absurd (none-not-some h)

pub under_some : (x : Typed) (o : Option (List Typed)) (vs : List Typed) → under x o ≡ some vs → (us : List Typed) × (o ≡ some us) × (vs ≡ x ∷ us)
under_some x none vs h = absurd (none-not-some h)
under_some x (some us) vs h = (us, refl, let z : vs ≡ x ∷ us = cc in z)

pub then_some : (o p : Option (List Typed)) (vs : List Typed) → then o p ≡ some vs → (ts us : List Typed) × (o ≡ some ts) × (p ≡ some us) × (vs ≡ ts ++ us)
then_some none p vs h = absurd (none-not-some h)
then_some (some ts) none vs h = absurd (none-not-some h)
then_some (some ts) (some us) vs h = (ts, us, refl, refl, let z : vs ≡ ts ++ us = cc in z)

pub append-some : (o p : Option (List ℕ)) (ns : List ℕ) → append o p ≡ some ns → (ms bs : List ℕ) × (o ≡ some ms) × (p ≡ some bs) × (ns ≡ ms ++ bs)
append-some none p ns h = absurd (none-not-some h)
append-some (some ms) none ns h = absurd (none-not-some h)
append-some (some ms) (some bs) ns h = (ms, bs, refl, refl, let z : ns ≡ ms ++ bs = cc in z)

pub found_some : (l : ℕ) (o : Option (List Typed)) (ts : List Typed) → found l o ≡ some ts → (m : ℕ) × (l ≡ suc m) × (o ≡ some ts)
found_some zero o ts h = absurd (none-not-some h)
found_some (suc m) o ts h = (m, refl, h)

module _ (S T : List ℕ) where
  -- the type by which a value is read
  choice_direct : (k : Kind) (t f : ℕ) → (first_row ≤ t → kind T (t - first_row) ≡ alternate_kind → ⊥) → type_choice S T k t f ≡ direct
  unfolding type_choice
  choice_direct k t f n = go (eqb f 0 && leb first_row t && is_alternate T (t - first_row)) refl
    where
      go : (b : Bool) → eqb f 0 && leb first_row t && is_alternate T (t - first_row) ≡ b
          → cond b (from_alternatives (of_kind T k (children T (t - first_row)))) direct ≡ direct
      go true e = absurd (n (leb-true first_row t (search (and_left, and_right))) (eqb-true (kind T (t - first_row)) alternate_kind (search (and_left, and_right))))
      go false e = refl

  pub choice_below : (k : Kind) (t f : ℕ) → t < first_row → type_choice S T k t f ≡ direct
  choice_below k t f l = choice_direct k t f (λ (m : first_row ≤ t) e. omega arith)

  pub choice_row : (k : Kind) (t f r : ℕ) → t ≡ first_row + r → (kind T r ≡ alternate_kind → ⊥) → type_choice S T k t f ≡ direct
  choice_row k t f r e n =
      let z : t - first_row ≡ r = omega arith in
      choice_direct k t f (λ m q. n (subst (λ x. kind T x ≡ alternate_kind) z q))

  pub choice_alternate : (k : Kind) (t r : ℕ) → t ≡ first_row + r → kind T r ≡ alternate_kind → type_choice S T k t 0 ≡ from_alternatives (of_kind T k (children T r))
  unfolding type_choice
  choice_alternate k t r e q =
      let z : t - first_row ≡ r = omega arith in
      rw (le-leb first_row t (omega arith), z, q)

  no_kind : (t r : ℕ) → t ≡ first_row + r → kind T r ≡ alternate_kind → type_kind T t ≡ none
  no_kind t r e q = row_kind_lem T t r e ∙ rw q

  pub choice_of_kind : (k j : Kind) (t f : ℕ) → type_kind T t ≡ some j → type_choice S T k t f ≡ direct
  choice_of_kind k j t f e = choice_direct k t f (λ (l : first_row ≤ t) q. none-not-some (sym (no_kind t (t - first_row) (omega arith) q) ∙ e))

  -- an alternate has a record beside its alternative's, and an alternative is no alternate
  abbrev pub extra_record : ℕ → ℕ
  extra_record t = cond (leb first_row t && is_alternate T (t - first_row)) 1 0

  pub extra_few : (t : ℕ) → extra_record t ≤ 1
  extra_few t = go (leb first_row t && is_alternate T (t - first_row))
    where
      go : (b : Bool) → cond b 1 0 ≤ 1
      go true = omega arith
      go false = omega arith

  pub extra_alternate : (t r : ℕ) → t ≡ first_row + r → kind T r ≡ alternate_kind → extra_record t ≡ 1
  extra_alternate t r e q =
      let z : t - first_row ≡ r = omega arith in
      rw (le-leb first_row t (omega arith), z, q)

  pub extra_of_kind : (j : Kind) (t : ℕ) → type_kind T t ≡ some j → extra_record t ≡ 0
  extra_of_kind j t e = go (leb first_row t && is_alternate T (t - first_row)) refl
    where
      go : (b : Bool) → leb first_row t && is_alternate T (t - first_row) ≡ b → ◌≡◌ {A = ℕ} (cond b 1 0) 0
      go true h =
          let l : first_row ≤ t = leb-true first_row t (and_left (leb first_row t) (is_alternate T (t - first_row)) h) in
          let q : kind T (t - first_row) ≡ alternate_kind = eqb-true (kind T (t - first_row)) alternate_kind (and_right (leb first_row t) (is_alternate T (t - first_row)) h) in
          absurd (none-not-some (sym (no_kind t (t - first_row) (omega arith) q) ∙ e))
      go false h = refl

  -- what is said where it is an alternative
  pub record Alternative (k : Kind) (t f u : ℕ) : Type 0 where
    pub no_array : f ≡ 0
    pub to_row : t ≡ first_row + (t - first_row)
    pub to_alternate : kind T (t - first_row) ≡ alternate_kind
    pub first_of : of_kind T k (children T (t - first_row)) ≡ some u

  pub choice_alternative : (k : Kind) (t f u : ℕ) → type_choice S T k t f ≡ alternative u → Alternative k t f u
  unfolding type_choice
  choice_alternative k t f u h = go (eqb f 0 && leb first_row t && is_alternate T (t - first_row)) refl h
    where
      of : (o : Option ℕ) → from_alternatives o ≡ alternative u → o ≡ some u
      of none e = cc
      of (some v) e = cc

      go : (b : Bool) → eqb f 0 && leb first_row t && is_alternate T (t - first_row) ≡ b
          → cond b (from_alternatives (of_kind T k (children T (t - first_row)))) direct ≡ alternative u → Alternative k t f u
      go true e h = record {
        no_array = eqb-true f 0 (search (and_left, and_right));
        to_row = omega (arith, leb-true first_row t (search (and_left, and_right)));
        to_alternate = eqb-true (kind T (t - first_row)) alternate_kind (search (and_left, and_right));
        first_of = of (of_kind T k (children T (t - first_row))) h;
      }
      go false e h = absurd (let z : ◌≡◌ {A = ℕ} 0 1 = cc in omega arith)

  -- values of enums: names of their children
  pub enum_has_lem : (t r : ℕ) (cs : List ℕ) → t ≡ first_row + r → kind T r ≡ enum_kind → enum_has S T t (str cs) ≡ any_of (names_of S T (children T r)) cs
  unfolding enum_has
  enum_has_lem t r cs e k =
      let z : t - first_row ≡ r = omega arith in
      rw (le-leb first_row t (omega arith), z, k)

  pub record EnumValue (t : ℕ) (v : Scalar) : Type 0 where
    pub codes : List ℕ
    pub is_string : v ≡ str codes
    pub to_row : first_row ≤ t
    pub to_enum : kind T (t - first_row) ≡ enum_kind
    pub row : ℕ
    pub is_child : Memᴰ row (children T (t - first_row))
    pub is_name : name_of S T row ≡ codes

  pub enum-value : (t : ℕ) (v : Scalar) → enum_has S T t v ≡ true → EnumValue t v
  unfolding enum_has
  enum-value t null h = absurd (clash (and_right (leb first_row t && is_enum T (t - first_row)) false h) refl)
  enum-value t (bool b) h = absurd (clash (and_right (leb first_row t && is_enum T (t - first_row)) false h) refl)
  enum-value t (num i token) h = absurd (clash (and_right (leb first_row t && is_enum T (t - first_row)) false h) refl)
  enum-value t (str cs) h =
      let names : List (List ℕ) = names_of S T (children T (t - first_row)) in
      let m = of_map (name_of S T) (children T (t - first_row)) cs (any_of-true names cs (search (and_left, and_right))) in
      record {
        codes = cs;
        is_string = refl;
        to_row = leb-true first_row t (search (and_left, and_right));
        to_enum = eqb-true (kind T (t - first_row)) enum_kind (search (and_left, and_right));
        row = m.0;
        is_child = m.1;
        is_name = sym m.2;
      }

  -- objects
  abbrev pub union_members : ℕ → Fields → Option (List ℕ)
  union_members r fs = append (members T chain_structs (union_base T r)) (chosen S T r (value_at (name_of S T (discriminator T r - 1)) fs))

  pub members-none : (fs : Fields) → members_at S T 0 fs ≡ some []
  unfolding members_at
  members-none fs = refl

  pub members-struct : (t r : ℕ) (fs : Fields) → t ≡ first_row + r → kind T r ≡ struct_kind → members_at S T t fs ≡ members T chain_structs (suc r)
  unfolding members_at
  members-struct t r fs e k =
      let z : t - first_row ≡ r = omega arith in
      rw (ne_eqb t 0 (omega arith), le-ltb t first_row (omega arith), z, k)

  pub members-union : (t r : ℕ) (fs : Fields) → t ≡ first_row + r → kind T r ≡ union_kind → members_at S T t fs ≡ union_members r fs
  unfolding members_at
  members-union t r fs e k =
      let z : t - first_row ≡ r = omega arith in
      rw (ne_eqb t 0 (omega arith), le-ltb t first_row (omega arith), z, k)

  -- no other types have members
  pub data ObjectType (t : ℕ) (fs : Fields) (ms : List ℕ) : Type 0 where
    a_struct : (r : ℕ) → t ≡ first_row + r → kind T r ≡ struct_kind → members T chain_structs (suc r) ≡ some ms → ObjectType t fs ms
    no_struct : t ≡ 0 → ms ≡ [] → ObjectType t fs ms
    a_union : (r : ℕ) → t ≡ first_row + r → kind T r ≡ union_kind → union_members r fs ≡ some ms → ObjectType t fs ms

  pub members_say : (t : ℕ) (fs : Fields) (ms : List ℕ) → members_at S T t fs ≡ some ms → ObjectType t fs ms
  unfolding members_at
  members_say t fs ms h = none_or (eqb t 0) refl h
    where
      go : (r : ℕ) (b c d : Bool) → t - first_row ≡ r → ltb t first_row ≡ b → is_struct T r ≡ c → is_union T r ≡ d
          → cond b none (cond c (members T chain_structs (suc r)) (cond d (union_members r fs) none)) ≡ some ms → ObjectType t fs ms
      go r true c d z p q s h = absurd (none-not-some h)
      go r false true d z p q s h = a_struct r (omega (arith, ltb-false t first_row p)) (eqb-true (kind T r) struct_kind q) h
      go r false false true z p q s h = a_union r (omega (arith, ltb-false t first_row p)) (eqb-true (kind T r) union_kind s) h
      go r false false false z p q s h = absurd (none-not-some h)

      none_or : (b : Bool) → eqb t 0 ≡ b
          → cond b (some []) (cond (ltb t first_row) none (cond (is_struct T (t - first_row)) (members T chain_structs (suc (t - first_row))) (cond (is_union T (t - first_row)) (union_members (t - first_row) fs) none))) ≡ some ms
          → ObjectType t fs ms
      none_or true e h = no_struct (eqb-true t 0 e) (let z : ms ≡ [] = cc in z)
      none_or false e h = go (t - first_row) (ltb t first_row) (is_struct T (t - first_row)) (is_union T (t - first_row)) refl refl refl refl h

  -- a value that is read at a type of one JSON kind has that kind
  pub reads-kind : {passes : Bool} {j : Json} {t : ℕ} {ts : List Typed} (k : Kind) → Reads passes S T j t 0 ts → type_kind T t ≡ some k → k ≡ kind_of j
  reads-kind k (built_in {j} {t} h) p = takes_same T t k (kind_of j) p (grid-takes t j h)
  reads-kind k (enum {t = t} r e q v n) p = let z : some string ≡ some k = sym (row_kind_lem T t r e ∙ rw q) ∙ p in cc
  reads-kind k (struct {t = t} r e q g n h) p = let z : some object ≡ some k = sym (row_kind_lem T t r e ∙ rw q) ∙ p in cc
  reads-kind k (no_type h) p = absurd (none-not-some (sym (built_in_kind_lem T 0 (omega arith)) ∙ p))
  reads-kind k (union {t = t} r e q g b s n h) p = let z : some object ≡ some k = sym (row_kind_lem T t r e ∙ rw q) ∙ p in cc
  reads-kind k (alternate {t = t} r e q c h) p = absurd (none-not-some (sym (no_kind t r e q) ∙ p))
