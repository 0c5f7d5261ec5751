-- An answer before the words after it are cleared: refused, whatever the words; accepted, with the records at their front. Clearing gives the whole outcome.
use Prim.Native.Nat.{ℕ, suc, ◌+◌, ◌-◌, ◌*◌, ◌/◌, ◌≤◌, ◌<◌}
use native.Mathlib.Omega.{arith}
use mathlib.Core.Path.{◌≡◌, sym, ap, ap₂, ◌∙◌, subst}
use mathlib.Core.List.{List, [], ◌∷◌, ◌++◌, append-nil, append_assoc}
use mathlib.Core.Option.{some}
use lib.ListN.{length, take, drop, replicate, length-append}
use lib.Seq.{take_at, length-take-le, sets-eq}
use borrow.Author.Tests.{le-leb, lt-ltb, le-ltb}
use Rattle.grammar.specs.Limits.{record_words}
use Rattle.words.specs.Items.{put_item}
use Rattle.rules.specs.declared.MessageRefusal.{MessageRefusal}
use Rattle.rules.specs.declared.MessageRefusal.TheVariants as M
use Rattle.rules.specs.declared.MessageAnswer.{MessageAnswer}
use Rattle.rules.specs.declared.MessageAnswer.TheVariants.{Accepted, Refused}
use Rattle.rules.specs.MessageAnswers.{answer_records}
use Rattle.rules.specs.Readings.{Typed, record_of, records_of}
use Rattle.rules.specs.Serving.Answers.{MessageResult, refused_at, accepted_with, reading_result}
use Rattle.rules.proofs.Room.{records-length}
use Rattle.readings.specs.Records.{put_record, put_all}
use Rattle.readings.proofs.RecordLaws.{put-length, all-length}
use Rattle.message.specs.Stages.{Uncleared}

-- record n is written behind the first n
put_front : (w : List ℕ) (n : ℕ) (t : Typed) → record_words * n + record_words ≤ length w
    → take (record_words * suc n) (put_record w n (record_of t)) ≡ take (record_words * n) w ++ record_of t
unfolding put_item
put_front w n t h =
    let e : length (take (record_words * n) w ++ record_of t) ≡ record_words * suc n = go in
    rw (le-leb (record_words * n + record_words) (length w) h)
    (ap (take (record_words * suc n)) (sets-eq (record_of t) w (record_words * n) h)
    ∙ take_at (take (record_words * n) w ++ record_of t) (drop (record_words * n + record_words) w) (record_words * suc n) e)
  where
    go : length (take (record_words * n) w ++ record_of t) ≡ record_words * suc n
    go = let a = length-take-le (record_words * n) w (omega arith) in let b = length-append (take (record_words * n) w) (record_of t) in omega arith

all-front : (w : List ℕ) (n k : ℕ) (ts : List Typed) → k ≡ record_words * (n + length ts) → k ≤ length w → take k (put_all w n ts) ≡ take (record_words * n) w ++ records_of ts
unfolding put_all
all-front w n k [] p h = let e : k ≡ record_words * n = omega arith in ap (λ (i : ℕ). take i w) e ∙ sym (append-nil (take (record_words * n) w))
all-front w n k (t ∷ ts) p h =
    let f : record_words * n + record_words ≤ length w = omega arith in
    all-front (put_record w n (record_of t)) (suc n) k ts (omega arith) (omega (arith, put-length w (record_of t) n))
    ∙ ap (λ (l : List ℕ). l ++ records_of ts) (put_front w n t f) ∙ append_assoc (take (record_words * n) w) (record_of t) (records_of ts)

-- refused
pub refused : {result : MessageResult} {old new : List ℕ} {x : MessageRefusal} {p : ℕ} → result ≡ refused_at (length old) x p → length new ≡ length old → Uncleared result old new (Refused x p)
refused {result} {old} {new} e l = record {
  answer = ap (λ (r : MessageResult). r.answer) e;
  same_length = l;
  counted = omega arith;
  words = ap (λ (r : MessageResult). r.words) e ∙ ap (λ (n : ℕ). replicate n 0) (let z : length old ≡ length new - 0 = omega arith in z);
}

-- accepted, with the records of a reading that the room holds
pub accepted : {result : MessageResult} {old new : List ℕ} {c n : ℕ} (ts : List Typed) → result ≡ accepted_with (length old) c ts → new ≡ put_all old 0 ts → n ≡ length ts
    → n ≤ length new / record_words → Uncleared result old new (Accepted c n)
accepted {result} {old} {new} {c} {n} ts e w k h =
    let l : length new ≡ length old = ap length w ∙ all-length old 0 ts in
    let f : take (record_words * n) new ≡ records_of ts = ap (take (record_words * n)) w ∙ all-front old 0 (record_words * n) ts (omega arith) (omega arith) in
    let z = records-length ts in
    let d : length old - length (records_of ts) ≡ length new - record_words * n = omega arith in
    record {
      answer = ap (λ (r : MessageResult). r.answer) e ∙ ap (Accepted c) (sym k);
      same_length = l;
      counted = omega arith;
      words = ap (λ (r : MessageResult). r.words) e ∙ ap (λ (u : List ℕ). u ++ replicate (length old - length (records_of ts)) 0) (sym f)
          ∙ ap (λ (i : ℕ). take (record_words * n) new ++ replicate i 0) d;
    }

-- 29 and 30, by a reading
module _ {result : MessageResult} (old : List ℕ) {new : List ℕ} (c p : ℕ) {n : ℕ} (ts : List Typed) (e : result ≡ reading_result (length old) c p (some ts)) (w : new ≡ put_all old 0 ts) (k : n ≡ length ts) where
  same_length : length new ≡ length old
  same_length = ap length w ∙ all-length old 0 ts

  pub no_room : length new / record_words < n → Uncleared result old new (Refused M.NoRoom p)
  no_room h = refused (e ∙ rw (lt-ltb (length old / record_words) (length ts) (omega (arith, same_length)))) same_length

  pub held : n ≤ length new / record_words → Uncleared result old new (Accepted c n)
  held h = accepted ts (e ∙ rw (le-ltb (length old / record_words) (length ts) (omega (arith, same_length)))) w k h

module _ {result : MessageResult} {old mid : List ℕ} {a r : MessageAnswer} (u : Uncleared result old mid a) (p : a ≡ r) where
  at : Uncleared result old mid r
  at = subst (λ (x : MessageAnswer). Uncleared result old mid x) p u

  pub fits : record_words * answer_records r ≤ length mid
  fits = at.counted

  -- cleared
  pub cleared : {new : List ℕ} {k : ℕ} → k ≡ record_words * answer_records r → new ≡ take k mid ++ replicate (length mid - k) 0 → result ≡ record { answer = r; words = new }
  cleared {new} {k} q e =
      ap₂ (λ (x : MessageAnswer) (w : List ℕ). record { answer = x; words = w }) at.answer
      (at.words ∙ ap (λ (i : ℕ). take i mid ++ replicate (length mid - i) 0) (sym q) ∙ sym e)
