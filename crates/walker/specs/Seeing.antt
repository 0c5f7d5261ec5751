-- Reference, Viewer: what a walk sees of records: the next whole one, or nothing; where it asks next; and the text that a record is about. Any words, any place.
use Rattle.std.specs.Prelude.{ℕ, suc, ◌-◌, ◌*◌, List, [], ◌∷◌, take, drop, Option, Some, None}
use Rattle.grammar.specs.Limits.{record_words}
use Rattle.walker.specs.declared.records.Record.{Record}
use Rattle.walker.specs.declared.reader.Reader.{Reader}

-- four words as a record: start, end, type reference, 1 if array
abbrev pub whole : ℕ → ℕ → ℕ → ℕ → Option Record
whole a b c d = Some (record { start = a; end = b; reference = c; array = d })

-- the first whole record of words
abbrev pub first_seen : List ℕ → Option Record
first_seen [] = None
first_seen (a ∷ []) = None
first_seen (a ∷ b ∷ []) = None
first_seen (a ∷ b ∷ c ∷ []) = None
first_seen (a ∷ b ∷ c ∷ d ∷ ws) = whole a b c d

-- the whole record number n, counted from 0
unfoldable pub seen_at : List ℕ → ℕ → Option Record
seen_at ws n = first_seen (drop (record_words * n) ws)

abbrev pub place_from : Option Record → ℕ → ℕ
place_from (Some r) n = suc n
place_from None n = n

-- one on after a record; where there is none the place stays
unfoldable pub place_after : List ℕ → ℕ → ℕ
place_after ws n = place_from (seen_at ws n) n

-- the reader after it was asked
abbrev pub moved : List ℕ → Reader → Reader
moved ws r = record { message = r.message; place = place_after ws r.place }

-- The bytes from a start to an end, as far as the message has them: none where the end is not after the start or the start is past the message.
unfoldable pub part_of : List ℕ → ℕ → ℕ → List ℕ
part_of m start end = take (end - start) (drop start m)
