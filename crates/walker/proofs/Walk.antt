-- A walk by the reader. Of any words: a record of zeros is a record, fewer than four words left are none, and at the end the reader stays.
-- Of any accepted answer: it gives exactly the records of the reading, in order, and then nothing, and its place stays, for ever.
-- The idea: behind a first record everything is as without it, one place further on.
use Prim.Native.Nat.{ℕ, zero, suc, ◌+◌, ◌*◌, ◌-◌, ◌<◌}
use native.Mathlib.Omega.{arith}
use mathlib.Core.Path.{◌≡◌, refl, sym, ap, ◌∙◌}
use mathlib.Core.List.{List, [], ◌∷◌, ◌++◌, map}
use lib.ListN.{length, take, drop, replicate}
use Rattle.grammar.specs.Limits.{record_words}
use Rattle.rules.specs.declared.MessageAnswer.TheVariants.{Accepted}
use Rattle.rules.specs.Readings.{Typed, record_of, records_of}
use Rattle.rules.specs.Envelope.{Asked}
use Rattle.rules.specs.MessageAnswers.{Readable}
use Rattle.rules.specs.Serving.Answers.{message_result}
use Rattle.rules.specs.Demands.{Gives}
use Rattle.rules.proofs.Acceptance.{accepted-gives}
use Rattle.std.specs.Prelude.{Option, Some, None}
use Rattle.walker.specs.declared.records.Record.{Record}
use Rattle.walker.specs.Seeing.{whole, first_seen, seen_at, place_from, place_after}
use Rattle.walker.specs.Walk.{asked, place_then, seen_of}
use Rattle.walker.proofs.SeeingLaws.{seen_none}

-- ---- any words
pub zeros-are-a_record : (ws : List ℕ) → seen_at (0 ∷ 0 ∷ 0 ∷ 0 ∷ ws) 0 ≡ whole 0 0 0 0
unfolding seen_at
zeros-are-a_record ws = refl

pub left-over-is-nothing : (ws : List ℕ) (n : ℕ) → length ws < record_words * (n + 1) → seen_at ws n ≡ None
left-over-is-nothing ws n h = sym (seen_none ws n (omega arith))

-- where nothing is seen, nothing is seen for ever, and the place stays
pub stays : (ws : List ℕ) (n : ℕ) → seen_at ws n ≡ None → (k : ℕ) → (asked ws k n ≡ replicate k None) × (place_then ws k n ≡ n)
unfolding asked place_then place_after
stays ws n e zero = (refl, refl)
stays ws n e (suc k) =
    let p : place_after ws n ≡ n = ap (λ (s : Option Record). place_from s n) e in
    let q = stays ws n e k in
    (ap (λ (s : Option Record). s ∷ asked ws k (place_after ws n)) e ∙ ap (λ (i : ℕ). None ∷ asked ws k i) p ∙ ap (λ (l : List (Option Record)). None ∷ l) q.0, ap (λ (i : ℕ). place_then ws k i) p ∙ q.1)

-- ---- behind a first record
four-more : (n : ℕ) → record_words * suc n ≡ suc (suc (suc (suc (record_words * n))))
four-more n = omega arith

one_on : (s : Option Record) (n : ℕ) → place_from s (suc n) ≡ suc (place_from s n)
one_on (Some r) n = refl
one_on None n = refl

module _ (t : Typed) (ws : List ℕ) where
  behind : (n : ℕ) → seen_at (record_of t ++ ws) (suc n) ≡ seen_at ws n
  unfolding seen_at
  behind n = ap (λ (k : ℕ). first_seen (drop k (record_of t ++ ws))) (four-more n)

  behind-place : (n : ℕ) → place_after (record_of t ++ ws) (suc n) ≡ suc (place_after ws n)
  unfolding place_after
  behind-place n = ap (λ (s : Option Record). place_from s (suc n)) (behind n) ∙ one_on (seen_at ws n) n

  behind-asked : (k n : ℕ) → asked (record_of t ++ ws) k (suc n) ≡ asked ws k n
  unfolding asked
  behind-asked zero n = refl
  behind-asked (suc k) n =
      ap (λ (s : Option Record). s ∷ asked (record_of t ++ ws) k (place_after (record_of t ++ ws) (suc n))) (behind n)
      ∙ ap (λ (i : ℕ). seen_at ws n ∷ asked (record_of t ++ ws) k i) (behind-place n) ∙ ap (λ (l : List (Option Record)). seen_at ws n ∷ l) (behind-asked k (place_after ws n))

  behind-then : (k n : ℕ) → place_then (record_of t ++ ws) k (suc n) ≡ suc (place_then ws k n)
  unfolding place_then
  behind-then zero n = refl
  behind-then (suc k) n = ap (λ (i : ℕ). place_then (record_of t ++ ws) k i) (behind-place n) ∙ behind-then k (place_after ws n)

-- ---- a reading's records
zero_more : (k : ℕ) → 0 + k ≡ k
zero_more k = omega arith

suc-more : (n k : ℕ) → suc n + k ≡ suc (n + k)
suc-more n k = omega arith

gives-records : (ts : List Typed) (k : ℕ) → asked (records_of ts) (length ts + k) 0 ≡ map seen_of ts ++ replicate k None
unfolding asked place_after seen_at
gives-records [] k = ap (λ (i : ℕ). asked [] i 0) (zero_more k) ∙ (stays [] 0 refl k).0
gives-records (t ∷ ts) k =
    ap (λ (i : ℕ). asked (records_of (t ∷ ts)) i 0) (suc-more (length ts) k)
    ∙ ap (λ (l : List (Option Record)). seen_of t ∷ l) (behind-asked t (records_of ts) (length ts + k) 0 ∙ gives-records ts k)

ends-after : (ts : List Typed) (k : ℕ) → place_then (records_of ts) (length ts + k) 0 ≡ length ts
unfolding place_then place_after seen_at
ends-after [] k = ap (λ (i : ℕ). place_then [] i 0) (zero_more k) ∙ (stays [] 0 refl k).1
ends-after (t ∷ ts) k = ap (λ (i : ℕ). place_then (records_of (t ∷ ts)) i 0) (suc-more (length ts) k) ∙ behind-then t (records_of ts) (length ts + k) 0 ∙ ap suc (ends-after ts k)

pub counted : (ts : List Typed) (zs : List ℕ) → take (record_words * length ts) (records_of ts ++ zs) ≡ records_of ts
counted [] zs = refl
counted (t ∷ ts) zs = ap (λ (k : ℕ). take k (records_of (t ∷ ts) ++ zs)) (four-more (length ts)) ∙ ap (λ (l : List ℕ). record_of t ++ l) (counted ts zs)

-- ---- an accepted answer: the words that it counts
pub record Walked (S T m : List ℕ) (c n : ℕ) (words : List ℕ) : Type 0 where
  pub reading : List Typed
  pub wanted : Asked
  pub row : c ≡ wanted.second
  pub readable : Readable S T m wanted reading
  pub count : n ≡ length reading
  pub gives : (k : ℕ) → asked (take (record_words * n) words) (n + k) 0 ≡ map seen_of reading ++ replicate k None
  pub stays_there : (k : ℕ) → place_then (take (record_words * n) words) (n + k) 0 ≡ n

pub gives-walked : {S T m words : List ℕ} {room c n : ℕ} → Gives S T m room c n words → Walked S T m c n words
gives-walked {words = words} {room = room} {n = n} g =
    let zs : List ℕ = replicate (room - length (records_of g.reading)) 0 in
    let w : take (record_words * n) words ≡ records_of g.reading =
    ap (λ (l : List ℕ). take (record_words * n) l) g.records ∙ ap (λ (i : ℕ). take (record_words * i) (records_of g.reading ++ zs)) g.count ∙ counted g.reading zs in
    record {
      reading = g.reading;
      wanted = g.asked;
      row = g.row;
      readable = g.readable_so;
      count = g.count;
      gives = λ k. ap (λ (l : List ℕ). asked l (n + k) 0) w ∙ ap (λ (i : ℕ). asked (records_of g.reading) (i + k) 0) g.count ∙ gives-records g.reading k;
      stays_there = λ k. ap (λ (l : List ℕ). place_then l (n + k) 0) w ∙ ap (λ (i : ℕ). place_then (records_of g.reading) (i + k) 0) g.count ∙ ends-after g.reading k ∙ sym g.count;
    }

pub walk : (S T m : List ℕ) (room c n : ℕ) → (message_result S T m room).answer ≡ Accepted c n → Walked S T m c n (message_result S T m room).words
walk S T m room c n e = gives-walked (accepted-gives S T m room c n e)
