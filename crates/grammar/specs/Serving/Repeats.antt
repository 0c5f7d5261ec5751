-- Serves contracts: the first key, in the order of the text, that repeats one before it in the same object. The proofs show that it is the earliest (Keys).
use Rattle.std.specs.Prelude.{ℕ, not, cond, List, [], ◌∷◌}
use Rattle.std.proofs.Math.Option.{Option, some, none}
use Rattle.grammar.specs.Notation.{same, all}
use Rattle.grammar.specs.Tree.{Json, Items, Fields}
use Rattle.grammar.specs.Tree.Json.{leaf, arr, obj}
use Rattle.grammar.specs.Tree.Items.{no_items, item}
use Rattle.grammar.specs.Tree.Fields.{no_fields, field}

-- the first of two, if there is one, else the second
abbrev pub first_of : Option ℕ → Option ℕ → Option ℕ
first_of (some p) x = some p
first_of none x = x

-- the place of a key that is among those before it
abbrev pub repeat_at : List (List ℕ) → List ℕ → ℕ → Option ℕ
repeat_at before key p = cond (all (λ k. not (same key k)) before) none (some p)

abbrev mutual
  pub first_repeat : Json → Option ℕ
  first_repeat (leaf a e v) = none
  first_repeat (arr a e js) = first_repeat_i js
  first_repeat (obj a e fs) = first_repeat_f [] fs

  pub first_repeat_i : Items → Option ℕ
  first_repeat_i no_items = none
  first_repeat_i (item j js) = first_of (first_repeat j) (first_repeat_i js)

  -- the list is what the keys before these fields mean
  pub first_repeat_f : List (List ℕ) → Fields → Option ℕ
  first_repeat_f before no_fields = none
  first_repeat_f before (field a e key j fs) = first_of (repeat_at before key a) (first_of (first_repeat j) (first_repeat_f (key ∷ before) fs))
