-- Reference, Rules 5 to 11, but for 7: said of the rows of a table T over the schema bytes S.
use Rattle.std.specs.Prelude.{ℕ, ◌-◌, Bool, true, false, not, cond, ◌&&◌, ◌||◌, List, [], ◌∷◌, map, eqb, ltb, leb, get_or}
use Rattle.std.proofs.Math.Option.{Option, none, some}
use Rattle.grammar.specs.Limits.{chain_structs}
use Rattle.grammar.specs.Notation.{text, digit, all, apart}
use Rattle.grammar.specs.Tree.{Kind}
use Rattle.grammar.specs.Tree.Kind.{number, boolean}
use Rattle.rules.specs.Kinds.{value_kind, branch_kind}
use Rattle.rules.specs.Types.{first_row, str_type, built_ins, same_kind}
use Rattle.rules.specs.Names.{good_name, same_name, clash}
use Rattle.rules.specs.Rows.{link, up_from, row_count, kind, is_enum, is_struct, is_union, is_alternate, is_command, count, base, type_ref, array_mark, optional, union_base, branch_count, discriminator, branch_struct, returns, unnamed, children, members, type_kind, name_of}

-- some element has the property
abbrev pub any : {A : Type 0} → (A → Bool) → List A → Bool
any f [] = false
any f (x ∷ xs) = f x || any f xs

-- the elements that have it
abbrev pub those : {A : Type 0} → (A → Bool) → List A → List A
those f [] = []
those f (x ∷ xs) = cond (f x) (x ∷ those f xs) (those f xs)

-- there is a value, and it has the property
abbrev pub is : {A : Type 0} → Option A → (A → Bool) → Bool
is none f = false
is (some a) f = f a

-- no name of one list clashes with one of the other
abbrev pub no_clash : List (List ℕ) → List (List ℕ) → Bool
no_clash xs ys = all (λ (x : List ℕ). all (λ (y : List ℕ). not (clash x y)) ys) xs

abbrev pub same_kinds : Option Kind → Option Kind → Bool
same_kinds j k = is j (λ x. is k (λ y. same_kind x y))

-- the most structs on the chain of a struct's base: the struct itself is the first one counted
abbrev pub base_structs : ℕ
base_structs = chain_structs - 1

module _ (T : List ℕ) where
  abbrev pub every_row : (ℕ → Bool) → Bool
  every_row f = all f (up_from 0 (row_count T))

  abbrev pub is_definition : ℕ → Bool
  is_definition r = (is_enum T r || is_struct T r || is_union T r || is_alternate T r || is_command T r) && not (unnamed T r)

module _ (S T : List ℕ) where
  abbrev pub names_of : List ℕ → List (List ℕ)
  names_of rs = map (name_of S T) rs

  -- 5: every name is good; an inline struct has none
  unfoldable pub good_names : Bool
  good_names = every_row T (λ r. unnamed T r || good_name (eqb (kind T r) value_kind || eqb (kind T r) branch_kind) (name_of S T r))

  abbrev pub definition_names : List (List ℕ)
  definition_names = names_of (those (is_definition T) (up_from 0 (row_count T)))

  -- 6: definitions and built-ins share one set of names, and so do the values, members, branches or alternatives of one list
  unfoldable pub distinct_names : Bool
  distinct_names = apart clash definition_names && no_clash definition_names built_ins && every_row T (λ r. apart clash (names_of (children T r)))

  -- 8: at most 16 structs on the chain from each struct on, itself counted, and no inherited member repeated
  abbrev pub chain_fits : ℕ → Bool
  chain_fits r = is (members T base_structs (base T r)) (λ inherited. no_clash (names_of inherited) (names_of (children T r)))

  unfoldable pub good_chains : Bool
  good_chains = every_row T (λ r. not (is_struct T r) || chain_fits r)

module _ (T : List ℕ) where
  -- 9, the first of four: a union has a branch
  abbrev pub has_branch : ℕ → Bool
  has_branch r = ltb 0 (branch_count T r)

  -- the second: its discriminator is a member of the base, ms, mandatory, no array, of an enum type
  abbrev pub discriminator_row : ℕ → ℕ
  discriminator_row r = discriminator T r - 1

  abbrev pub discriminator_enum : ℕ → ℕ
  discriminator_enum r = type_ref T (discriminator_row r) - first_row

  abbrev pub discriminator_fits : ℕ → List ℕ → Bool
  discriminator_fits r ms =
      any (λ m. eqb (discriminator T r) (link m)) ms && eqb (optional T (discriminator_row r)) 0 && eqb (array_mark T (discriminator_row r)) 0
      && leb first_row (type_ref T (discriminator_row r)) && is_enum T (discriminator_enum r)

module _ (S T : List ℕ) where
  -- the third: a branch is named by a value of that enum
  abbrev pub named_by_value : ℕ → ℕ → Bool
  named_by_value r b = any (same_name (name_of S T b)) (names_of S T (children T (discriminator_enum T r)))

  -- the fourth: a branch's struct, inherited members included, repeats no member of the base
  abbrev pub repeats_none : List ℕ → ℕ → Bool
  repeats_none ms b = is (members T chain_structs (branch_struct T b)) (λ bs. no_clash (names_of S T ms) (names_of S T bs))

  abbrev pub branch_fits : ℕ → List ℕ → ℕ → Bool
  branch_fits r ms b = named_by_value r b && repeats_none ms b

  abbrev pub union_fits : ℕ → Bool
  union_fits r = has_branch T r && is (members T chain_structs (union_base T r)) (λ ms. discriminator_fits T r ms && all (branch_fits r ms) (children T r))

  unfoldable pub good_unions : Bool
  good_unions = every_row T (λ r. not (is_union T r) || union_fits r)

module _ (T : List ℕ) where
  -- 10, the first of five: an alternate has an alternative
  abbrev pub has_alternative : ℕ → Bool
  has_alternative r = ltb 0 (count T r)

  -- the second: each has a JSON kind (any and alternates have none), and no two have the same
  abbrev pub kinds_of : List ℕ → List (Option Kind)
  kinds_of rs = map (λ r. type_kind T (type_ref T r)) rs

  unfoldable pub kinds_fit : List ℕ → Bool
  kinds_fit rs = all (λ k. is k (λ _. true)) (kinds_of rs) && apart same_kinds (kinds_of rs)

  -- a type of that JSON kind: of number they are the number types, built-ins 2 to 12, of boolean it is bool
  abbrev pub of_json_kind : Kind → ℕ → Bool
  of_json_kind k t = is (type_kind T t) (same_kind k)

  abbrev pub types_of : List ℕ → List ℕ
  types_of rs = map (type_ref T) rs

-- what a value without its quotes is taken for, by its exact bytes: a number, true or false
abbrev pub starts_with_digit : List ℕ → Bool
starts_with_digit x = digit (get_or x 0 0)

abbrev pub on_or_off : List ℕ → Bool
on_or_off x = same_name x (text "on") || same_name x (text "off")

module _ (S T : List ℕ) where
  -- type t is an enum, and some value of it has the property
  abbrev pub has_value : (List ℕ → Bool) → ℕ → Bool
  has_value f t = leb first_row t && is_enum T (t - first_row) && any f (names_of S T (children T (t - first_row)))

  -- the third, of every two alternatives, t and u their types: str, which takes any string, isn't mixed with a number type or bool
  abbrev pub str_mix : ℕ → ℕ → Bool
  str_mix t u = eqb t str_type && (of_json_kind T number u || of_json_kind T boolean u)

  -- the fourth: an enum of which a value begins with a digit isn't mixed with a number type
  abbrev pub digit_mix : ℕ → ℕ → Bool
  digit_mix t u = has_value starts_with_digit t && of_json_kind T number u

  -- the fifth: an enum that has the value on or off isn't mixed with bool
  abbrev pub on_off_mix : ℕ → ℕ → Bool
  on_off_mix t u = has_value on_or_off t && of_json_kind T boolean u

  unfoldable pub unmixed : List ℕ → Bool
  unmixed ts = all (λ t. all (λ u. not (str_mix t u || digit_mix t u || on_off_mix t u)) ts) ts

  abbrev pub alternate_fits : ℕ → Bool
  alternate_fits r = has_alternative T r && kinds_fit T (children T r) && unmixed (types_of T (children T r))

  unfoldable pub good_alternates : Bool
  good_alternates = every_row T (λ r. not (is_alternate T r) || alternate_fits r)

module _ (T : List ℕ) where
  -- 11: a command returns nothing, or a struct or a union, or an array of these
  abbrev pub return_fits : ℕ → Bool
  return_fits t = eqb t 0 || leb first_row t && (is_struct T (t - first_row) || is_union T (t - first_row))

module _ (S T : List ℕ) where
  unfoldable pub good_returns : Bool
  good_returns = every_row T (λ r. not (is_command T r) || return_fits T (returns T r))
