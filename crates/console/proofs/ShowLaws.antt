-- One ask of the reader: none is left, the line waits, or what is put is written.
use Prim.Native.Nat.{ℕ, ◌+◌, ◌-◌, ◌/◌, ◌≤◌, ◌<◌}
use native.Mathlib.Omega.{arith}
use mathlib.Core.Path.{◌≡◌, refl, sym, ap, ◌∙◌}
use mathlib.Core.Logic.{◌⊎◌, inl}
use mathlib.Core.Bool.{Bool, true, false}
use mathlib.Core.List.{List, [], ◌++◌}
use lib.ListN.{length}
use Rattle.std.specs.Prelude.{Option, Some, None}
use Rattle.grammar.specs.Limits.{record_words}
use Rattle.grammar.proofs.Booleans.{clash}
use Rattle.walker.specs.declared.records.Record.{Record}
use Rattle.walker.specs.declared.reader.Reader.{Reader}
use Rattle.walker.specs.Seeing.{seen_at, place_from, place_after, moved}
use Rattle.walker.proofs.SeeingLaws.{seen_below, stayed-end, after-whole}
use Rattle.trees.specs.TreeText.{line_at, open_then}
use Rattle.trees.specs.Serving.Rooms.{line_room}
use Rattle.trees.specs.Serving.Asks.{One}
use Rattle.console.specs.Serving.Shows.{Shows}

module _ (S T m ws : List ℕ) (room page : ℕ) (reader reader' : Reader) (es old : List ℕ) {seen : Option Record} (q : (seen ≡ seen_at ws reader.place) × (reader' ≡ moved ws reader)) where
  abbrev n : ℕ
  n = reader.place

  goes_to : reader'.place ≡ place_after ws n
  goes_to = ap (λ (r : Reader). r.place) q.1

  module _ {es' lines : List ℕ} (p : lines ≡ old ++ line_at S T m ws room n es) (o : es' ≡ open_then S T m ws room n es) where
    pub shows_one : One S T m ws room n es old lines reader'.place es'
    shows_one = record { puts = p; moves = goes_to; opens = o }

    pub shows_none : seen ≡ None → Shows S T m ws room page n es old reader'.place es' lines false
    unfolding place_after
    shows_none e = record {
      lines = lines;
      one = shows_one;
      kept = inl refl;
      goes = λ x. clash x refl;
      stops = λ x. stayed-end ws n (ap (λ (s : Option Record). place_from s n) (sym q.0 ∙ e));
    }

    pub shows_line : {new : List ℕ} {r : Record} → seen ≡ Some r → (new ≡ lines) ⊎ (new ≡ []) → length new + line_room ≤ page → Shows S T m ws room page n es old reader'.place es' new true
    shows_line e k h = record {
      lines = lines;
      one = shows_one;
      kept = k;
      goes = λ x. (seen_below ws n (sym q.0 ∙ e), h);
      stops = λ x. clash refl x;
    }

-- the asks left are fewer
pub fewer : {S T m ws es old es' new : List ℕ} {room page n next : ℕ} {on : Bool} → Shows S T m ws room page n es old next es' new on → on ≡ true → length ws / record_words - next < length ws / record_words - n
fewer {ws = ws} {n = n} s e = let h = (s.goes e).0 in omega (arith, h, after-whole ws n h, s.one.moves)
