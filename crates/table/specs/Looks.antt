-- Serves contracts: what strings look like once their quotes are lost, by the last three parts of rule 10, and words that tell it of enums.
use Rattle.std.specs.Prelude.{ℕ, ◌+◌, ◌%◌, ◌≤◌, ◌<◌, ◌^◌, ◌≡◌, Bool, not, cond, ◌||◌, List, eqb, leb, length, get_or}
use Rattle.grammar.specs.Tree.{Kind}
use Rattle.grammar.specs.Tree.Kind.{number, boolean}
use Rattle.rules.specs.Types.{str_type}
use Rattle.rules.specs.Rows.{children}
use Rattle.rules.specs.Rules.{any, names_of, starts_with_digit, on_or_off, has_value}
use Rattle.table.specs.declared.looks.Like.{Like}
use Rattle.table.specs.declared.looks.Like.TheVariants.{Number, Boolean}

abbrev pub looks_like : Like → List ℕ → Bool
looks_like Number x = starts_with_digit x
looks_like Boolean x = on_or_off x

-- the JSON kind of what a string may look like
abbrev pub like_kind : Like → Kind
like_kind Number = number
like_kind Boolean = boolean

-- hashes are below; a word from here on tells what an enum looks like, by what is added
abbrev pub looked : ℕ
looked = 2 ^ 31

abbrev pub look_word : Bool → Bool → ℕ
look_word n b = looked + cond n 1 0 + cond b 2 0

abbrev pub tells : Like → ℕ → Bool
tells Number w = eqb (w % 2) 1
tells Boolean w = leb (looked + 2) w

module _ (S T : List ℕ) where
  -- some value of enum e looks so
  unfoldable pub enum_looks : Like → ℕ → Bool
  enum_looks like e = any (looks_like like) (names_of S T (children T e))

  -- type t has a string that looks so: str has any, an enum its values
  unfoldable pub type_looks : Like → ℕ → Bool
  type_looks like t = eqb t str_type || has_value S T (looks_like like) t

  -- the type t of strings, 0 for none, may stand beside one of what they may look like, 0 for none
  unfoldable pub stands_beside : Like → ℕ → ℕ → Bool
  stands_beside like t other = eqb other 0 || not (type_looks like t)

  abbrev pub looks_of : ℕ → ℕ
  looks_of e = look_word (enum_looks Number e) (enum_looks Boolean e)

-- the words tell the truth of the enums that they tell of
pub record Looked (S T words : List ℕ) : Type 0 where
  pub told : (e : ℕ) → e < length words → looked ≤ get_or words e 0 → get_or words e 0 ≡ looks_of S T e

-- a is the answer, and the words still tell the truth
pub record Looking {A : Type 0} (S T words : List ℕ) (answer a : A) : Type 0 where
  pub is : a ≡ answer
  pub looked : Looked S T words
