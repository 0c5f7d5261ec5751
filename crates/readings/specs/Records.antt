-- What reading a value at a type writes and counts, by the definition of readings, over a sound table with its index and nodes that hold the value.
use Rattle.std.specs.Prelude.{ℕ, suc, ◌+◌, ◌≤◌, ◌≡◌, Bool, true, List, [], ◌∷◌, length}
use Rattle.std.proofs.Math.Option.{Option, none, some}
use Rattle.grammar.specs.Limits.{message_levels, record_words}
use Rattle.words.specs.Items.{put_item}
use Rattle.grammar.specs.Tree.{Json}
use Rattle.grammar.specs.Keys.{keys_once}
use Rattle.grammar.specs.Serving.Machine.Message.{message}
use Rattle.rules.specs.Readings.{Typed, record_of}
use Rattle.rules.specs.Serving.ReadingOf.{reading_of}
use Rattle.text.specs.Nodes.{Holds}
use Rattle.children.specs.Index.{IndexedTable}
use Rattle.readings.specs.declared.readings.Count.{Count}
use Rattle.readings.specs.declared.readings.Count.TheVariants.{Records, Nothing}

-- the words after record n is written, if all of it fits
abbrev pub put_record : List ℕ → ℕ → List ℕ → List ℕ
put_record w n xs = put_item record_words w n xs

-- the words after the records of a reading are written, from record n on, as far as they fit
unfoldable pub put_all : List ℕ → ℕ → List Typed → List ℕ
put_all w n [] = w
put_all w n (t ∷ ts) = put_all (put_record w n (record_of t)) (suc n) ts

-- the count goes on past the room; without a reading the words are free
abbrev pub ReadTold : List ℕ → List ℕ → ℕ → Option (List Typed) → Count → Type 0
ReadTold old new n none r = (length new ≡ length old) × (r ≡ Nothing)
ReadTold old new n (some ts) r = (new ≡ put_all old n ts) × (r ≡ Records (n + length ts))

-- the value at node k, at the type reference t, as an array of it where f is 1, after n records
pub record ReadsAt (S T m w ix old new : List ℕ) (k t f : ℕ) (passes : Bool) (left n : ℕ) (r : Count) : Type 0 where
  pub told : (j : Json) (l : ℕ) → IndexedTable S T ix → Holds message m w j l k → keys_once j ≡ true → l ≤ left → ReadTold old new n (reading_of passes S T j t f) r

-- the whole value at node k, from the first record on
pub record ReadsWhole (S T m w ix old new : List ℕ) (k t f : ℕ) (passes : Bool) (r : Count) : Type 0 where
  pub told : (j : Json) (l : ℕ) → IndexedTable S T ix → Holds message m w j l k → keys_once j ≡ true → l ≤ message_levels → ReadTold old new 0 (reading_of passes S T j t f) r
