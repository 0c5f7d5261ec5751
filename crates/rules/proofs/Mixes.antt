-- In a sound table no alternate has one of the three mixes of rule 10: said in type references and in exact bytes.
-- The idea: of any two alternatives the rule's tests fail; which built-ins have the kinds number and boolean is computed.
use Prim.Native.Nat.{ℕ, ◌+◌, ◌-◌, ◌≤◌, ◌<◌}
use mathlib.Core.Path.{◌≡◌, refl}
use mathlib.Core.Bool.{Bool, true, not, ◌&&◌, ◌||◌}
use mathlib.Core.Logic.{⊎_elim}
use mathlib.Core.List.{List, ◌∷◌, Memᴰ}
use mathlib.Core.Option.{none}
use native.Mathlib.Nat.{eq-or-lt_of_le}
use native.Mathlib.Omega.{arith}
use lib.Dec.{eqb}
use lib.ListN.{get_or}
use borrow.Author.Tests.{eq-eqb, le-leb}
use Rattle.grammar.specs.Notation.{text, digit, all}
use Rattle.grammar.specs.Tree.{Kind}
use Rattle.grammar.specs.Tree.Kind.{number, boolean}
use Rattle.rules.specs.Kinds.{enum_kind, alternate_kind}
use Rattle.rules.specs.Types.{first_row, str_type, same_kind, built_in_kinds}
use Rattle.rules.specs.Rows.{up_from, kind, type_ref, children, name_of}
use Rattle.rules.specs.Rules.{is, names_of, has_alternative, kinds_fit, of_json_kind, types_of, starts_with_digit, on_or_off, has_value, str_mix, digit_mix, on_off_mix, unmixed}
use Rattle.rules.specs.Sound.{sound}
use Rattle.rules.proofs.Lists.{and_right, and_of, or_left, or_right, of_not, all_true, any_of_lem, in_map, in_up_from}
use Rattle.rules.proofs.Grid.{built_in_kind_lem}
use Rattle.rules.proofs.SoundFacts.{alternate_fits_lem}

-- Type t, of one alternative, may stand beside type u, of another. 2 to 12 are the number types, 13 is bool.
pub record Beside (S T : List ℕ) (t u : ℕ) : Type 0 where
  pub no_str : t ≡ str_type → 2 ≤ u → u ≤ 13 → ⊥
  pub no_digit : (e v : ℕ) → t ≡ first_row + e → kind T e ≡ enum_kind → Memᴰ v (children T e) → digit (get_or (name_of S T v) 0 0) ≡ true → 2 ≤ u → u ≤ 12 → ⊥
  pub no_on : (e v : ℕ) → t ≡ first_row + e → kind T e ≡ enum_kind → Memᴰ v (children T e) → name_of S T v ≡ text "on" → u ≡ 13 → ⊥
  pub no_off : (e v : ℕ) → t ≡ first_row + e → kind T e ≡ enum_kind → Memᴰ v (children T e) → name_of S T v ≡ text "off" → u ≡ 13 → ⊥

module _ (T : List ℕ) where
  -- the built-ins from a on, n of them, have a JSON kind
  of_kind_lem : (k : Kind) (a n : ℕ) → all (λ t. is (get_or (none ∷ built_in_kinds) t none) (same_kind k)) (up_from a n) ≡ true
      → (u : ℕ) → a ≤ u → u + 1 ≤ a + n → a + n ≤ first_row → of_json_kind T k u ≡ true
  of_kind_lem k a n h u l m f = rw (built_in_kind_lem T u (omega arith)) (all_true (λ t. is (get_or (none ∷ built_in_kinds) t none) (same_kind k)) (up_from a n) h u (in_up_from n a u l (omega arith)))

  pub is_number : (u : ℕ) → 2 ≤ u → u ≤ 12 → of_json_kind T number u ≡ true
  is_number u l m = of_kind_lem number 2 11 refl u l (omega arith) (omega arith)

  pub is-bool : (u : ℕ) → u ≡ 13 → of_json_kind T boolean u ≡ true
  is-bool u e = of_kind_lem boolean 13 1 refl u (omega arith) (omega arith) (omega arith)

module _ (S T : List ℕ) where
  has_value_lem : (f : List ℕ → Bool) (t e v : ℕ) → t ≡ first_row + e → kind T e ≡ enum_kind → Memᴰ v (children T e) → f (name_of S T v) ≡ true → has_value S T f t ≡ true
  has_value_lem f t e v p k m q =
      let z : t - first_row ≡ e = omega arith in
      rw (le-leb first_row t (omega arith), z, eq-eqb (kind T e) enum_kind k) (any_of_lem f (names_of S T (children T e)) (name_of S T v) (in_map (name_of S T) (children T e) v m) q)

  module _ (t u : ℕ) (n : not (str_mix S T t u || digit_mix S T t u || on_off_mix S T t u) ≡ true) where
    never : str_mix S T t u || digit_mix S T t u || on_off_mix S T t u ≡ true → ⊥
    never = of_not (str_mix S T t u || digit_mix S T t u || on_off_mix S T t u) n

    no_str-mix : t ≡ str_type → of_json_kind T number u || of_json_kind T boolean u ≡ true → ⊥
    no_str-mix e k =
        never (or_left (str_mix S T t u || digit_mix S T t u) (on_off_mix S T t u) (or_left (str_mix S T t u) (digit_mix S T t u)
        (and_of (eqb t str_type) (of_json_kind T number u || of_json_kind T boolean u) (eq-eqb t str_type e) k)))

    no_digit-mix : has_value S T starts_with_digit t ≡ true → of_json_kind T number u ≡ true → ⊥
    no_digit-mix e k =
        never (or_left (str_mix S T t u || digit_mix S T t u) (on_off_mix S T t u) (or_right (str_mix S T t u) (digit_mix S T t u)
        (and_of (has_value S T starts_with_digit t) (of_json_kind T number u) e k)))

    no_on-off-mix : has_value S T on_or_off t ≡ true → of_json_kind T boolean u ≡ true → ⊥
    no_on-off-mix e k = never (or_right (str_mix S T t u || digit_mix S T t u) (on_off_mix S T t u) (and_of (has_value S T on_or_off t) (of_json_kind T boolean u) e k))

    number_or-bool : 2 ≤ u → u ≤ 13 → of_json_kind T number u || of_json_kind T boolean u ≡ true
    number_or-bool l m =
        ⊎_elim (λ (e : u ≡ 13). or_right (of_json_kind T number u) (of_json_kind T boolean u) (is-bool T u e))
        (λ (g : u < 13). or_left (of_json_kind T number u) (of_json_kind T boolean u) (is_number T u l (omega arith))) (eq-or-lt_of_le m)

    beside : Beside S T t u
    beside = record {
      no_str = λ e l m. no_str-mix e (number_or-bool l m);
      no_digit = λ e v p k m q l i. no_digit-mix (has_value_lem starts_with_digit t e v p k m q) (is_number T u l i);
      no_on = λ e v p k m q b. no_on-off-mix (has_value_lem on_or_off t e v p k m (rw q)) (is-bool T u b);
      no_off = λ e v p k m q b. no_on-off-mix (has_value_lem on_or_off t e v p k m (rw q)) (is-bool T u b);
    }

  -- of any two alternatives of one alternate; so too of each and itself
  pub never-mixed : sound S T ≡ true → (r c d : ℕ) → kind T r ≡ alternate_kind → Memᴰ c (children T r) → Memᴰ d (children T r)
      → Beside S T (type_ref T c) (type_ref T d)
  unfolding unmixed
  never-mixed h r c d k m n =
      let ts = types_of T (children T r) in
      let clear : ℕ → ℕ → Bool = λ t u. not (str_mix S T t u || digit_mix S T t u || on_off_mix S T t u) in
      let f : all (λ t. all (clear t) ts) ts ≡ true = and_right (has_alternative T r && kinds_fit T (children T r)) (unmixed S T ts) (alternate_fits_lem S T h r k) in
      beside (type_ref T c) (type_ref T d) (all_true (clear (type_ref T c)) ts (all_true (λ t. all (clear t) ts) ts f (type_ref T c) (in_map (type_ref T) (children T r) c m)) (type_ref T d) (in_map (type_ref T) (children T r) d n))
