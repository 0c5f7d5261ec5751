-- The tree of an accepted message is the tree of its reading: each line is indented by all records that are open where its value starts, and these are the values that contain it.
-- The idea: the values of a reading nest, so the ends of the open ones rise from the innermost on, and the ones kept are those that count; the levels of a message bound how many.
use Prim.Native.Nat.{ℕ, suc, ◌+◌, ◌-◌, ◌*◌, ◌/◌, ◌≤◌, ◌<◌, min}
use native.Mathlib.Nat.{min-eq_left}
use native.Mathlib.Omega.{arith}
use mathlib.Core.Path.{◌≡◌, refl, sym, ap, subst, ◌∙◌}
use mathlib.Core.Bool.{Bool, true, false, cond}
use mathlib.Core.Logic.{◌⊎◌, inl, inr}
use mathlib.Core.List.{List, [], ◌∷◌, ◌++◌}
use lib.Dec.{ltb}
use lib.ListN.{length, take, drop, replicate}
use lib.Seq.{drop-drop}
use borrow.Author.Tests.{ltb-true, ltb-false, lt-ltb, le-ltb, le-leb}
use Rattle.grammar.specs.Limits.{record_words}
use Rattle.grammar.specs.Tree.{start_of, end_of}
use Rattle.rules.specs.declared.MessageAnswer.TheVariants.{Accepted}
use Rattle.rules.specs.Readings.{Typed, records_of}
use Rattle.rules.specs.Envelope.{Asked}
use Rattle.rules.specs.MessageAnswers.{Readable}
use Rattle.rules.specs.Serving.Answers.{message_result}
use Rattle.rules.proofs.Acceptance.{accepted-gives}
use Rattle.rules.specs.Serving.Order.{Before, Nested, spanning}
use Rattle.rules.proofs.Room.{records-length}
use Rattle.rules.proofs.ReadingOrder.{reading-nested, reading-shallow}
use Rattle.std.specs.Prelude.{Option}
use Rattle.walker.specs.declared.records.Record.{Record}
use Rattle.walker.specs.Seeing.{first_seen, seen_at, place_from, place_after}
use Rattle.walker.specs.Walk.{seen_of}
use Rattle.walker.proofs.Walk.{counted}
use Rattle.trees.specs.Nesting.{still_open, opened, open_after}
use Rattle.trees.specs.Labelling.{label_text}
use Rattle.trees.specs.TreeText.{deepest, indent, indent_text, left_text, right_text, record_line, line_at, open_then, lines_of, lines_from, open_at, value_line, reading_lines}
use Rattle.trees.proofs.NestLaws.{by_end}

-- ---- ends that rise from the innermost on
abbrev AllAbove : ℕ → List ℕ → Type 0
AllAbove e [] = Unit {0}
AllAbove e (x ∷ xs) = (e ≤ x) × AllAbove e xs

abbrev Rising : List ℕ → Type 0
Rising [] = Unit {0}
Rising (e ∷ es) = AllAbove e es × Rising es

-- how many of them are after a place
abbrev count_after : ℕ → List ℕ → ℕ
count_after place [] = 0
count_after place (e ∷ es) = cond (ltb place e) 1 0 + count_after place es

one-after : (place e : ℕ) (es : List ℕ) → place < e → count_after place (e ∷ es) ≡ suc (count_after place es)
one-after place e es h = ap (λ (t : Bool). cond t 1 0 + count_after place es) (lt-ltb place e h) ∙ omega arith

none_after : (place e : ℕ) (es : List ℕ) → e ≤ place → count_after place (e ∷ es) ≡ count_after place es
none_after place e es h = ap (λ (t : Bool). cond t 1 0 + count_after place es) (le-ltb place e h) ∙ omega arith

all_after : (place e : ℕ) (es : List ℕ) → place < e → AllAbove e es → length es ≡ count_after place es
all_after place e [] h b = refl
all_after place e (x ∷ es) h b = ap suc (all_after place e es h b.1) ∙ sym (one-after place x es (omega (arith, b.0)))

still-nothing : (a : ℕ) → still_open a [] ≡ []
unfolding still_open
still-nothing a = refl

-- ---- those still open at a place: the innermost is open, or it is left out and the same holds of the others
module _ (a : ℕ) where
  still-count : (s : ℕ) → a ≤ s → (es : List ℕ) → count_after s (still_open a es) ≡ count_after s es
  still-count s h [] = ap (count_after s) (still-nothing a)
  still-count s h (e ∷ es) = go (ltb a e) refl (still-count s h es)
    where
      go : (t : Bool) → ltb a e ≡ t → count_after s (still_open a es) ≡ count_after s es → count_after s (still_open a (e ∷ es)) ≡ count_after s (e ∷ es)
      go true p i = ap (count_after s) (by_end a e es true p)
      go false p i = ap (count_after s) (by_end a e es false p) ∙ i ∙ sym (none_after s e es (omega (arith, ltb-false a e p)))

  still-length : (es : List ℕ) → Rising es → length (still_open a es) ≡ count_after a es
  still-length [] r = ap length (still-nothing a)
  still-length (e ∷ es) r = go (ltb a e) refl (still-length es r.1)
    where
      go : (t : Bool) → ltb a e ≡ t → length (still_open a es) ≡ count_after a es → length (still_open a (e ∷ es)) ≡ count_after a (e ∷ es)
      go true p i = let h = ltb-true a e p in ap length (by_end a e es true p) ∙ ap suc (all_after a e es h r.0) ∙ sym (one-after a e es h)
      go false p i = ap length (by_end a e es false p) ∙ i ∙ sym (none_after a e es (ltb-false a e p))

  still-few : (es : List ℕ) → length (still_open a es) ≤ length es
  still-few [] = let e = ap length (still-nothing a) in omega (arith, e)
  still-few (e ∷ es) = go (ltb a e) refl (still-few es)
    where
      go : (t : Bool) → ltb a e ≡ t → length (still_open a es) ≤ length es → length (still_open a (e ∷ es)) ≤ suc (length es)
      go true p i = let z : length (still_open a (e ∷ es)) ≡ suc (length es) = ap length (by_end a e es true p) in omega arith
      go false p i = let z = ap length (by_end a e es false p) in omega (arith, z, i)

-- ---- open ends and the values to come: each is shut by a value, or contains it
abbrev Fit : ℕ → List Typed → Type 0
Fit e [] = Unit {0}
Fit e (v ∷ vs) = ((e ≤ start_of v.value) ⊎ (end_of v.value ≤ e)) × Fit e vs

abbrev Fits : List ℕ → List Typed → Type 0
Fits [] vs = Unit {0}
Fits (e ∷ es) vs = Fit e vs × Fits es vs

later : (es : List ℕ) (v : Typed) (vs : List Typed) → Fits es (v ∷ vs) → Fits es vs
later [] v vs f = tt
later (e ∷ es) v vs f = (f.0.1, later es v vs f.1)

contains : (v : Typed) (vs : List Typed) → Before v vs → Fit (end_of v.value) vs
contains v [] b = tt
contains v (u ∷ vs) b = (b.0.1, contains v vs b.1)

inside : (e : ℕ) (v : Typed) → start_of v.value < e → (e ≤ start_of v.value) ⊎ (end_of v.value ≤ e) → end_of v.value ≤ e
inside e v h (inl k) = absurd (omega arith)
inside e v h (inr k) = k

all-inside : (e : ℕ) (es : List ℕ) (v : Typed) (vs : List Typed) → start_of v.value < e → AllAbove e es → Fits es (v ∷ vs) → AllAbove (end_of v.value) es
all-inside e [] v vs h b f = tt
all-inside e (x ∷ es) v vs h b f = (inside x v (omega (arith, b.0)) f.0.0, all-inside e es v vs h b.1 f.1)

-- with the value v opened, the ends rise and fit what follows
pub record Around (es : List ℕ) (vs : List Typed) : Type 0 where
  rising : Rising es
  fits : Fits es vs

none-around : (vs : List Typed) → Around [] vs
none-around vs = record { rising = tt; fits = tt }

module _ (v : Typed) (vs : List Typed) (b : Before v vs) where
  abbrev a : ℕ
  a = start_of v.value

  open_on : (es : List ℕ) → Around es (v ∷ vs) → Around (end_of v.value ∷ still_open a es) vs
  open_on [] r = let z = still-nothing a in subst (λ (l : List ℕ). Around (end_of v.value ∷ l) vs) (sym z) (record { rising = (tt, tt); fits = (contains v vs b, tt) })
  open_on (e ∷ es) r = go (ltb a e) refl (open_on es (record { rising = r.rising.1; fits = r.fits.1 }))
    where
      go : (t : Bool) → ltb a e ≡ t → Around (end_of v.value ∷ still_open a es) vs → Around (end_of v.value ∷ still_open a (e ∷ es)) vs
      go true p i =
          let h = ltb-true a e p in
          subst (λ (l : List ℕ). Around (end_of v.value ∷ l) vs) (sym (by_end a e es true p)) (record {
            rising = ((inside e v h r.fits.0.0, all-inside e es v vs h r.rising.0 r.fits.1), r.rising);
            fits = (contains v vs b, later (e ∷ es) v vs r.fits);
          })
      go false p i = subst (λ (l : List ℕ). Around (end_of v.value ∷ l) vs) (sym (by_end a e es false p)) i

-- ---- line by line
abbrev StartsAfter : ℕ → List Typed → Type 0
StartsAfter low [] = Unit {0}
StartsAfter low (v ∷ vs) = (low ≤ start_of v.value) × StartsAfter low vs

follow : (v : Typed) (vs : List Typed) → Before v vs → StartsAfter (start_of v.value) vs
follow v [] b = tt
follow v (u ∷ vs) b = (b.0.0, follow v vs b.1)

from_zero : (vs : List Typed) → StartsAfter 0 vs
from_zero [] = tt
from_zero (v ∷ vs) = (omega arith, from_zero vs)

module _ (S T m ws : List ℕ) (room : ℕ) where
  -- the values before are us, the last first; those to come are vs, in the words from record n on
  pub record Here (low n : ℕ) (us vs : List Typed) (es : List ℕ) : Type 0 where
    place : n ≡ length us
    words : drop (record_words * n) ws ≡ records_of vs
    nested : Nested vs
    starts : StartsAfter low vs
    around : Around es vs
    counts : (s : ℕ) → low ≤ s → count_after s es ≡ open_at us s
    few : length es ≤ length us
    holds : length us + length vs ≤ room
    shallow : (s : ℕ) → low ≤ s → open_at us s + spanning s vs ≤ deepest

  module _ {low n : ℕ} {us : List Typed} {v : Typed} {vs : List Typed} {es : List ℕ} (h : Here low n us (v ∷ vs) es) where
    abbrev start : ℕ
    start = start_of v.value

    seen : seen_at ws n ≡ seen_of v
    unfolding seen_at
    seen = ap first_seen h.words

    depth : length (still_open start es) ≡ open_at us start
    depth = still-length start es h.around.rising ∙ h.counts start h.starts.0

    -- the indent is not cut
    left : left_text T m ws n start (length (still_open start es)) ≡ indent (open_at us start) ++ label_text T m ws (length us) start
    unfolding left_text indent_text
    left =
        let f : open_at us start ≤ deepest = omega (arith, h.shallow start h.starts.0) in
        ap (λ (k : ℕ). indent (min k deepest) ++ label_text T m ws n start) depth ∙ ap (λ (k : ℕ). indent k ++ label_text T m ws n start) (min-eq_left f)
        ∙ ap (λ (k : ℕ). indent (open_at us start) ++ label_text T m ws k start) h.place

    line : line_at S T m ws room n es ≡ value_line S T m ws us v
    unfolding line_at
    line = ap (record_line S T m ws room n es) seen ∙ ap (λ (l : List ℕ). l ++ right_text S T m start (end_of v.value) v.ref v.array) left

    next : place_after ws n ≡ suc n
    unfolding place_after
    next = ap (λ (s : Option Record). place_from s n) seen

    kept : open_then S T m ws room n es ≡ end_of v.value ∷ still_open start es
    unfolding open_then opened
    kept =
        let f : length (still_open start es) < room = omega (arith, still-few start es, h.few, h.holds) in
        ap (λ (s : Option Record). open_after room s es) seen ∙ ap (λ (t : Bool). cond t (end_of v.value ∷ still_open start es) (still_open start es)) (lt-ltb (length (still_open start es)) room f)

    pub on : Here start (suc n) (v ∷ us) vs (end_of v.value ∷ still_open start es)
    on = record {
      place = ap suc h.place;
      words =
          let e : record_words * suc n ≡ record_words * n + record_words = omega arith in
          ap (λ (k : ℕ). drop k ws) e ∙ sym (drop-drop record_words (record_words * n) ws) ∙ ap (drop record_words) h.words;
      nested = h.nested.1;
      starts = follow v vs h.nested.0;
      around = open_on v vs h.nested.0 es h.around;
      counts = λ s l. ap (λ (k : ℕ). cond (ltb s (end_of v.value)) 1 0 + k) (still-count start s l es ∙ h.counts s (omega (arith, h.starts.0, l)));
      few = let z = still-few start es in omega (arith, z, h.few);
      holds = omega (arith, h.holds);
      shallow = λ s l.
          let z : open_at us s + (cond (ltb s (end_of v.value)) 1 0 + spanning s vs) ≤ deepest = rw (le-leb start s l) at (h.shallow s (omega (arith, h.starts.0, l))) in
          omega arith;
    }

  lines_are : (vs : List Typed) {low n : ℕ} {us : List Typed} {es : List ℕ} → Here low n us vs es → lines_of S T m ws room (length vs) n es ≡ reading_lines S T m ws us vs
  unfolding lines_of reading_lines
  lines_are [] h = refl
  lines_are (v ∷ vs) {n = n} {us} {es} h =
      ap (λ (l : List ℕ). l ++ lines_of S T m ws room (length vs) (place_after ws n) (open_then S T m ws room n es)) (line h)
      ∙ ap (λ (k : ℕ). value_line S T m ws us v ++ lines_of S T m ws room (length vs) k (open_then S T m ws room n es)) (next h)
      ∙ ap (λ (l : List ℕ). value_line S T m ws us v ++ lines_of S T m ws room (length vs) (suc n) l) (kept h) ∙ ap (λ (l : List ℕ). value_line S T m ws us v ++ l) (lines_are vs (on h))

-- ---- of an accepted answer: the words that it counts, with room for the end of each record or more
pub record Tells (S T m : List ℕ) (c n : ℕ) (words : List ℕ) : Type 0 where
  pub reading : List Typed
  pub asked : Asked
  pub row : c ≡ asked.second
  pub readable : Readable S T m asked reading
  pub count : n ≡ length reading
  pub lines : (ends : ℕ) → n ≤ ends → lines_from S T m (take (record_words * n) words) ends 0 [] ≡ reading_lines S T m (take (record_words * n) words) [] reading
  pub nested : Nested reading

pub accepted-tree : (S T m : List ℕ) (room c n : ℕ) → (message_result S T m room).answer ≡ Accepted c n → Tells S T m c n (message_result S T m room).words
unfolding lines_from
accepted-tree S T m room c n e =
    let g = accepted-gives S T m room c n e in
    let ts = g.reading in
    let ws : List ℕ = take (record_words * n) (message_result S T m room).words in
    let zs : List ℕ = replicate (room - length (records_of ts)) 0 in
    let w : ws ≡ records_of ts = ap (take (record_words * n)) g.records ∙ ap (λ (i : ℕ). take (record_words * i) (records_of ts ++ zs)) g.count ∙ counted ts zs in
    let k : length ws / record_words - 0 ≡ length ts = omega (arith, ap length w, records-length ts) in
    let o = reading-nested g.readable_so in
    record {
      reading = ts;
      asked = g.asked;
      row = g.row;
      readable = g.readable_so;
      count = g.count;
      lines = λ ends h. ap (λ (i : ℕ). lines_of S T m ws ends i 0 []) k ∙ lines_are S T m ws ends ts (record {
        place = refl;
        words = w;
        nested = o;
        starts = from_zero ts;
        around = none-around ts;
        counts = λ s l. refl;
        few = omega arith;
        holds = omega (arith, g.count, h);
        shallow = λ s l. omega (arith, reading-shallow g.readable_so s);
      });
      nested = o;
    }
