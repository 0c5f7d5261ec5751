-- Records written one after another: lengths are kept, a reading after another goes on where that one ended, and the record of a node is its value's.
-- The idea: what is told of a value and of those after it is told of both together.
use Prim.Native.Nat.{ℕ, suc, ◌+◌, ◌*◌}
use mathlib.Core.Path.{◌≡◌, refl, sym, ap, ap₂, ◌∙◌}
use mathlib.Core.List.{List, [], ◌∷◌, ◌++◌}
use mathlib.Core.Option.{Option, none, some}
use native.Mathlib.Numerals.{add-one}
use native.Mathlib.Omega.{arith}
use lib.Dec.{leb}
use lib.ListN.{length, length-append}
use lib.Seq.{sets, length-sets}
use mathlib.Core.Bool.{Bool, true, false, cond}
use Rattle.grammar.specs.Limits.{record_words}
use Rattle.words.specs.Items.{put_item}
use Rattle.grammar.specs.Tree.{Json, start_of, end_of}
use Rattle.grammar.specs.Tree.Json.{leaf, arr, obj}
use Rattle.grammar.specs.Serving.Machine.Message.{message}
use Rattle.rules.specs.Readings.{Typed, typed, record_of}
use Rattle.rules.specs.Serving.ReadingOf.{under, then}
use Rattle.text.specs.Nodes.{Holds, node_end, node_start}
use Rattle.readings.specs.Records.{put_record, put_all, ReadTold}
use Rattle.readings.specs.declared.readings.Count.{Count}
use Rattle.readings.specs.declared.readings.Count.TheVariants.{Records, Nothing}

-- one record
pub put-length : (w xs : List ℕ) (n : ℕ) → length (put_record w n xs) ≡ length w
unfolding put_item
put-length w xs n = go (leb (record_words * n + record_words) (length w))
  where
    go : (b : Bool) → length (cond b (sets w (record_words * n) xs) w) ≡ length w
    go true = length-sets w (record_words * n) xs
    go false = refl

-- a value starts and ends where its node says
pub node_start_lem : (m w : List ℕ) (j : Json) (l k : ℕ) → Holds message m w j l k → node_start w k ≡ start_of j
node_start_lem m w (leaf a e v) l k h = h.0.has_start
node_start_lem m w (arr a e js) l k h = h.0.has_start
node_start_lem m w (obj a e fs) l k h = h.0.has_start

node_end_lem : (m w : List ℕ) (j : Json) (l k : ℕ) → Holds message m w j l k → node_end w k ≡ end_of j
node_end_lem m w (leaf a e v) l k h = h.0.has_end
node_end_lem m w (arr a e js) l k h = h.0.has_end
node_end_lem m w (obj a e fs) l k h = h.0.has_end

pub node_record : (m w old : List ℕ) (j : Json) (l k t f n : ℕ) → Holds message m w j l k
    → put_record old n (node_start w k ∷ node_end w k ∷ t ∷ f ∷ []) ≡ put_record old n (record_of (typed j t f))
node_record m w old j l k t f n h = ap₂ (λ (s e : ℕ). put_record old n (s ∷ e ∷ t ∷ f ∷ [])) (node_start_lem m w j l k h) (node_end_lem m w j l k h)

-- many
pub all-length : (w : List ℕ) (n : ℕ) (ts : List Typed) → length (put_all w n ts) ≡ length w
unfolding put_all
all-length w n [] = refl
all-length w n (t ∷ ts) = all-length (put_record w n (record_of t)) (suc n) ts ∙ put-length w (record_of t) n

pub put-append : (w : List ℕ) (n : ℕ) (ts us : List Typed) → put_all w n (ts ++ us) ≡ put_all (put_all w n ts) (n + length ts) us
unfolding put_all
put-append w n [] us = let e : n ≡ n + 0 = omega arith in ap (λ (x : ℕ). put_all w x us) e
put-append w n (t ∷ ts) us =
    let e : suc n + length ts ≡ n + suc (length ts) = omega arith in
    put-append (put_record w n (record_of t)) (suc n) ts us ∙ ap (λ (x : ℕ). put_all (put_all (put_record w n (record_of t)) (suc n) ts) x us) e

-- a count
pub other : {d : ℕ} → Records d ≡ Nothing → ⊥
other e = let z : ◌≡◌ {A = ℕ} 0 1 = cc in omega arith

pub counted : {d e : ℕ} → Records d ≡ Records e → d ≡ e
counted e = cc

-- what is told of parts and of the whole
pub told_empty : (w : List ℕ) (n : ℕ) → ReadTold w w n (some []) (Records n)
unfolding put_all
told_empty w n = let e : n ≡ n + 0 = omega arith in (refl, ap Records e)

pub told-nothing : (old new : List ℕ) (n : ℕ) (o : Option (List Typed)) → length new ≡ length old → o ≡ none → ReadTold old new n o Nothing
told-nothing old new n o e p = rw p (e, refl)

pub told_under : (old mid new : List ℕ) (n : ℕ) (x : Typed) (o : Option (List Typed)) (r : Count) → mid ≡ put_record old n (record_of x)
    → ReadTold mid new (n + 1) o r → ReadTold old new n (under x o) r
unfolding put_all
told_under old mid new n x none r p h = (h.0 ∙ ap length p ∙ put-length old (record_of x) n, h.1)
told_under old mid new n x (some ts) r p h =
    let e : n + 1 + length ts ≡ n + suc (length ts) = omega arith in
    (h.0 ∙ ap₂ (λ (y : List ℕ) (i : ℕ). put_all y i ts) p (add-one n), h.1 ∙ ap Records e)

pub told-then : (old mid new : List ℕ) (n d : ℕ) (o q : Option (List Typed)) (r : Count) → ReadTold old mid n o (Records d) → ReadTold mid new d q r
    → ReadTold old new n (then o q) r
told-then old mid new n d none q r h k = absurd (other h.1)
told-then old mid new n d (some ts) none r h k = (k.0 ∙ ap length h.0 ∙ all-length old n ts, k.1)
told-then old mid new n d (some ts) (some us) r h k =
    let e : d ≡ n + length ts = counted h.1 in
    let f : d + length us ≡ n + length (ts ++ us) = omega (arith, length-append ts us) in
    (k.0 ∙ ap₂ (λ (y : List ℕ) (i : ℕ). put_all y i us) h.0 e ∙ sym (put-append old n ts us), k.1 ∙ ap Records f)

pub told_none : (old new : List ℕ) (n : ℕ) (o q : Option (List Typed)) → ReadTold old new n o Nothing → ReadTold old new n (then o q) Nothing
told_none old new n none q h = h
told_none old new n (some ts) q h = absurd (other (sym h.1))
