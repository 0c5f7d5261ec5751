-- Any words may come: what the reader makes of garbage, by computation. Four words are a record whatever they say.
use mathlib.Core.Path.{◌≡◌, refl}
use mathlib.Core.List.{[], ◌∷◌}
use Rattle.grammar.specs.Notation.{text}
use Rattle.std.specs.Prelude.{Some, None}
use Rattle.walker.specs.declared.records.Record.{Record}
use Rattle.walker.specs.Seeing.{whole, seen_at, place_after, part_of}
use Rattle.walker.specs.Walk.{asked, place_then}

-- no words, a place past the end, words left over after a whole record
no_words : (seen_at [] 0 ≡ None) × (place_after [] 0 ≡ 0)
unfolding seen_at place_after
no_words = (refl, refl)

past_the_end : (seen_at (34 ∷ 47 ∷ 17 ∷ 0 ∷ []) 5 ≡ None) × (place_after (34 ∷ 47 ∷ 17 ∷ 0 ∷ []) 5 ≡ 5)
unfolding seen_at place_after
past_the_end = (refl, refl)

left_over : (asked (34 ∷ 47 ∷ 17 ∷ 0 ∷ 41 ∷ 46 ∷ 1 ∷ []) 3 0 ≡ whole 34 47 17 0 ∷ None ∷ None ∷ []) × (place_then (34 ∷ 47 ∷ 17 ∷ 0 ∷ 41 ∷ 46 ∷ 1 ∷ []) 3 0 ≡ 1)
unfolding asked place_then seen_at place_after
left_over = (refl, refl)

-- records of zeros, and records that no message has
zeros : asked (0 ∷ 0 ∷ 0 ∷ 0 ∷ 0 ∷ 0 ∷ 0 ∷ 0 ∷ []) 3 0 ≡ whole 0 0 0 0 ∷ whole 0 0 0 0 ∷ None ∷ []
unfolding asked seen_at place_after
zeros = refl

outside : seen_at (7 ∷ 3 ∷ 4000000000 ∷ 9 ∷ []) 0 ≡ whole 7 3 4000000000 9
unfolding seen_at
outside = refl

-- the text of a record: within the message, past its end, the wrong way round, outside, empty
texts : (part_of (text "abcdef") 1 3 ≡ text "bc") × (part_of (text "abcdef") 4 4000000000 ≡ text "ef") × (part_of (text "abcdef") 3 1 ≡ []) × (part_of (text "abcdef") 6 9 ≡ []) × (part_of [] 0 0 ≡ [])
unfolding part_of
texts = (refl, refl, refl, refl, refl)
