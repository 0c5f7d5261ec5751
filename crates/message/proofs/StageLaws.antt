-- From stage to stage: what each finds is what the next one asks for, and what the result of the whole text is.
use Prim.Native.Nat.{ℕ, zero, suc, ◌+◌, ◌-◌, ◌*◌, ◌^◌, ◌/◌, ◌≤◌, ◌<◌}
use native.Mathlib.Omega.{arith}
use mathlib.Core.Path.{◌≡◌, refl, sym, ap, ◌∙◌, subst}
use mathlib.Core.Logic.{⊎_elim}
use mathlib.Core.Bool.{Bool, true, false}
use mathlib.Core.List.{List, [], ◌∷◌}
use mathlib.Core.Option.{Option, none, some}
use lib.ListN.{length, get_or}
use borrow.Author.Tests.{lt-ltb, le-ltb}
use Rattle.grammar.specs.Limits.{message_bytes, message_levels, record_words}
use Rattle.grammar.specs.Tree.{Json}
use Rattle.grammar.specs.Tree.Json.{leaf, arr, obj}
use Rattle.grammar.specs.Tree.Items.{no_items, item}
use Rattle.grammar.specs.Tree.Fields.{no_fields}
use Rattle.grammar.specs.Serving.Machine.Message.{message, read_message}
use Rattle.grammar.specs.Serving.Repeats.{first_of, first_repeat}
use Rattle.grammar.proofs.Texts.{message-complete, message_broken, message-too_deep}
use Rattle.grammar.proofs.Repeats.{first-once}
use Rattle.rules.specs.declared.MessageRefusal.{MessageRefusal}
use Rattle.rules.specs.declared.MessageRefusal.TheVariants as M
use Rattle.rules.specs.declared.MessageAnswer.{MessageAnswer}
use Rattle.rules.specs.declared.MessageAnswer.TheVariants.{Accepted, Refused}
use Rattle.rules.specs.Sound.{sound}
use Rattle.rules.specs.Readings.{Typed, strict}
use Rattle.rules.specs.Serving.Answers as Answers
use Rattle.rules.specs.Serving.Answers.{MessageResult, asking, asked_reading, refused_at, refused_by, reading_result, asked_result, text_result, sound_result, message_result}
use Rattle.rules.specs.Serving.ReadingOf.{reading_of}
use Rattle.tokens.specs.NodeKinds.{object_node}
use Rattle.tokens.proofs.ScalarNodes.{scalar_kind_lem}
use Rattle.text.specs.Nodes.{node_words, text_bound, Holds, node_kind, node_start}
use Rattle.text.specs.Keys.{place_of, FirstRepeat}
use Rattle.text.specs.Texts.{MessageTold, ReadsMessage}
use Rattle.text.proofs.KeyLaws.{goes_on}
use Rattle.text.specs.declared.reader.TextError.{TextError}
use Rattle.text.specs.declared.reader.TextError.TheVariants as Texts
use Rattle.std.specs.Prelude as Std
use Rattle.std.specs.Prelude.{Some, None, Result, Ok, Err}
use Rattle.children.specs.Index.{IndexedTable}
use Rattle.readings.specs.Records.{put_all, ReadTold, ReadsWhole}
use Rattle.readings.proofs.RecordLaws.{node_start_lem}
use Rattle.readings.specs.declared.readings.Count.{Count}
use Rattle.readings.specs.declared.readings.Count.TheVariants.{Records, Nothing}
use Rattle.message.specs.declared.asked.Asked.{Asked}
use Rattle.message.specs.declared.asked.Asking.{Asking}
use Rattle.message.specs.declared.asked.Asking.TheVariants.{Asks, Refuses}
use Rattle.message.specs.declared.check.TextRefused.{TextRefused}
use Rattle.message.specs.Asking.{AskingTold, AsksFor}
use Rattle.message.specs.Stages.{NodesFit, WholeText, ValueRead, TextTold, KeysRead, ReadsText, AskedIn, PresentIn, Uncleared}
use Rattle.message.proofs.AskingLaws.{asked-once}
use Rattle.message.proofs.AnswerLaws.{refused, no_room, held}

-- words for as many nodes as a message of so many bytes can have
pub nodes-fit : (n : ℕ) {m w : List ℕ} → length w ≡ node_words * n → length m ≤ 2 * n → node_words * n < 2 ^ 32 → NodesFit m w
nodes-fit n e h k = record { enough = omega arith; whole_nodes = omega arith; small = omega arith }

-- 25
module _ {m w : List ℕ} {count : ℕ} (t : WholeText m w count) {x : Std.Option ℕ} (k : FirstRepeat message m w count x) where
  first_alone : (o : Option ℕ) → first_of o none ≡ o
  first_alone none = refl
  first_alone (some p) = refl

  first-is : first_repeat t.value ≡ place_of x
  first-is =
      sym
      (k.told (item t.value no_items) message_levels (omega (arith, t.ends, goes_on message m w t.value message_levels 0 t.holds), t.holds, t.ends)
      ∙ first_alone (first_repeat t.value))

  pub repeated : {p : ℕ} → x ≡ Some p → KeysRead m w (Err (record { 0 = M.RepeatedKey; 1 = p }))
  repeated e = record { told = λ S T room. rw (t.text, first-is ∙ ap place_of e) }

  pub unrepeated : x ≡ None → KeysRead m w (Ok tt)
  unrepeated e = record { told = record { value = t.value; text = t.text; holds = t.holds; once = (first-once t.value).0 (first-is ∙ ap place_of e); small = t.small } }

-- 23 and 24
module _ {m v w : List ℕ} {x : Result ℕ TextError} (r : ReadsMessage m v w x) where
  pub faulty : {e : ℕ} → x ≡ Err (Texts.Fault e) → ReadsText m v w (Err (record { 0 = M.NotText; 1 = e }))
  faulty p = let z = message_broken (subst (λ (y : Result ℕ TextError). MessageTold m w y) p r.told) in record { told = λ S T room. rw z }

  pub deeper : {e : ℕ} → x ≡ Err (Texts.Deep e) → ReadsText m v w (Err (record { 0 = M.TooDeep; 1 = e }))
  deeper p = let z = message-too_deep (subst (λ (y : Result ℕ TextError). MessageTold m w y) p r.told) in record { told = λ S T room. rw z }

  pub never : x ≡ Err Texts.TooLong → NodesFit m v → ⊥
  never p h = let z : text_bound ≤ length m = subst (λ (y : Result ℕ TextError). MessageTold m w y) p r.told in omega (arith, h.enough, h.small)

  pub whole-text : {n : ℕ} → x ≡ Ok n → NodesFit m v → WholeText m w n
  whole-text {n} e h =
      let t : MessageTold m w (Ok n) = subst (λ (y : Result ℕ TextError). MessageTold m w y) e r.told in
      let f : node_words * n ≤ length w = omega (arith, t.few, r.same_length, h.enough, h.whole_nodes) in
      record { value = t.tree; text = message-complete t.text; holds = t.holds f; ends = t.ends f; small = omega (arith, r.same_length, h.small) }

module _ {m v w : List ℕ} {r : Result (Unit {0}) TextRefused} (t : ReadsText m v w r) where
  pub text-refused : {x : TextRefused} → r ≡ Err x → (S T : List ℕ) (room : ℕ) → text_result S T room (read_message m) ≡ refused_at room x.0 x.1
  text-refused e = subst (λ (y : Result (Unit {0}) TextRefused). TextTold m w y) e t.told

  pub value_read : r ≡ Ok tt → ValueRead m w
  value_read e = subst (λ (y : Result (Unit {0}) TextRefused). TextTold m w y) e t.told

-- what is asked
module _ {S T m w ix : List ℕ} (g : IndexedTable S T ix) (v : ValueRead m w) {r : Asking} (q : AsksFor S T m w r) where
  told : AskingTold m w (message_levels - 1) (asking S T v.value) r
  told = q.told g.sound_table v.value message_levels v.holds v.once

  pub refuses : {x : MessageRefusal} → r ≡ Refuses x → (room : ℕ) → text_result S T room (read_message m) ≡ refused_by room x
  refuses {x} e room = rw (v.text, (first-once v.value).1 v.once) (go (asking S T v.value) (subst (λ (y : Asking). AskingTold m w (message_levels - 1) (asking S T v.value) y) e told))
    where
      go : (a : Answers.Asking) → AskingTold m w (message_levels - 1) a (Refuses x) → asked_result S T room a ≡ refused_by room x
      go (Answers.Asking.asks a) t = absurd t
      go (Answers.Asking.refuses z) t = ap (refused_by room) t

  pub asks_in : {x : Asked} → r ≡ Asks x → AskedIn S T m w ix x
  asks_in {x} e = go (asking S T v.value) refl (subst (λ (y : Asking). AskingTold m w (message_levels - 1) (asking S T v.value) y) e told)
    where
      go : (a : Answers.Asking) → asking S T v.value ≡ a → AskingTold m w (message_levels - 1) a (Asks x) → AskedIn S T m w ix x
      go (Answers.Asking.asks a) p t = record {
        given = g;
        value = v.value;
        text = v.text;
        once = v.once;
        asked = a;
        is = p;
        levels = message_levels - 1;
        few = omega arith;
        like = t;
        small = v.small;
      }
      go (Answers.Asking.refuses z) p t = absurd t

-- a node that holds a value is there
kind-some : (m w : List ℕ) (j : Json) (l k : ℕ) → Holds message m w j l k → 0 < node_kind w k
kind-some m w (leaf a e v) l k h = omega (arith, h.0.has_kind, (scalar_kind_lem m a e v).0)
kind-some m w (arr a e js) l k h = omega (arith, h.0.has_kind)
kind-some m w (obj a e fs) l k h = omega (arith, h.0.has_kind)

there : (w : List ℕ) (i : ℕ) → 0 < get_or w i 0 → i < length w
there [] i h = absurd (omega arith)
there (x ∷ w) zero h = omega arith
there (x ∷ w) (suc i) h = omega (arith, there w i h)

node-there : (m w : List ℕ) (j : Json) (l k : ℕ) → Holds message m w j l k → node_words * k < length w
node-there m w j l k h = omega (arith, there w (node_words * k + 0) (kind-some m w j l k h))

-- an absent value is an empty object in words of its own
abbrev pub empty_nodes : List ℕ
empty_nodes = object_node ∷ 0 ∷ 0 ∷ 1 ∷ []

empty_held : (m : List ℕ) → Holds message m empty_nodes (obj 0 0 no_fields) 1 0
empty_held m = (record { has_kind = refl; has_start = refl; has_end = refl }, omega arith, omega arith, refl)

module _ {S T m w ix : List ℕ} {x : Asked} (a : AskedIn S T m w ix x) where
  pub absent : x.node ≡ 0 → PresentIn S T m empty_nodes ix x
  absent e =
      let v : a.asked.value ≡ obj 0 0 no_fields = ⊎_elim (λ h. h.1) (λ h. absurd (omega (arith, h.0))) a.like.at in
      record {
        nodes = w;
        here = a;
        levels = 1;
        few = omega arith;
        holds = subst (λ (k : ℕ). Holds message m empty_nodes a.asked.value 1 k) (sym e) (subst (λ (j : Json). Holds message m empty_nodes j 1 0) (sym v) (empty_held m));
        low = omega arith;
      }

  pub present : (x.node ≡ 0 → ⊥) → PresentIn S T m w ix x
  present n =
      let h : Holds message m w a.asked.value a.levels x.node = ⊎_elim (λ h. absurd (n h.0)) (λ h. h.1) a.like.at in
      record { nodes = w; here = a; levels = a.levels; few = a.few; holds = h; low = omega (arith, node-there m w a.asked.value a.levels x.node h, a.small) }

-- 29 and 30
module _ {S T m w ix : List ℕ} {x : Asked} (p : PresentIn S T m w ix x) (old : List ℕ) {new : List ℕ} {r : Count} {k t f : ℕ} {b : Bool}
    (ek : k ≡ x.node) (et : t ≡ x.how.reference) (ef : f ≡ x.how.array) (eb : b ≡ x.how.passes) (g : ReadsWhole S T m w ix old new k t f b r) where
  reads : ReadTold old new 0 (asked_reading S T p.here.asked) r
  reads =
      let l = p.here.like in
      let e : reading_of b S T p.here.asked.value t f ≡ asked_reading S T p.here.asked =
      ap (λ (y : Bool). reading_of y S T p.here.asked.value t f) (eb ∙ l.policy) ∙ ap (λ (y : ℕ). reading_of strict S T p.here.asked.value y f) (et ∙ l.ref)
      ∙ ap (λ (y : ℕ). reading_of strict S T p.here.asked.value p.here.asked.ref y) (ef ∙ l.array) in
      subst (λ (o : Option (List Typed)). ReadTold old new 0 o r) e
      (g.told p.here.asked.value p.levels p.here.given (subst (λ (i : ℕ). Holds message m w p.here.asked.value p.levels i) (sym ek) p.holds)
      (asked-once S T p.here.value p.here.asked p.here.once p.here.is) p.few)

  -- with the start that the node has
  result_is : {i : ℕ} → i ≡ node_start w x.node
      → text_result S T (length old) (read_message m) ≡ reading_result (length old) p.here.asked.second i (asked_reading S T p.here.asked)
  result_is {i} es =
      rw (p.here.text, (first-once p.here.value).1 p.here.once, p.here.is)
      (ap (λ (n : ℕ). reading_result (length old) p.here.asked.second n (asked_reading S T p.here.asked))
      (sym (es ∙ node_start_lem m w p.here.asked.value p.levels x.node p.holds)))

  pub unread : {i : ℕ} → i ≡ node_start w x.node → r ≡ Nothing → Uncleared (text_result S T (length old) (read_message m)) old new (Refused M.NoReading i)
  unread {i} es e = go (asked_reading S T p.here.asked) refl reads
    where
      go : (o : Option (List Typed)) → asked_reading S T p.here.asked ≡ o → ReadTold old new 0 o r → Uncleared (text_result S T (length old) (read_message m)) old new (Refused M.NoReading i)
      go none q h = refused (result_is es ∙ ap (reading_result (length old) p.here.asked.second i) q) h.0
      go (some ts) q h = absurd (let z : Nothing ≡ Records (0 + length ts) = sym e ∙ h.1 in let y : ◌≡◌ {A = ℕ} 0 1 = cc in omega arith)

  module _ {i n : ℕ} (es : i ≡ node_start w x.node) (e : r ≡ Records n) where
    record Read : Type 0 where
      ts : List Typed
      is : text_result S T (length old) (read_message m) ≡ reading_result (length old) p.here.asked.second i (some ts)
      words : new ≡ put_all old 0 ts
      count : n ≡ length ts

    read : Read
    read = go (asked_reading S T p.here.asked) refl reads
      where
        go : (o : Option (List Typed)) → asked_reading S T p.here.asked ≡ o → ReadTold old new 0 o r → Read
        go none q h = absurd (let z : Records n ≡ Nothing = sym e ∙ h.1 in let y : ◌≡◌ {A = ℕ} 0 1 = cc in omega arith)
        go (some ts) q h =
            let z : Records n ≡ Records (0 + length ts) = sym e ∙ h.1 in
            let y : n ≡ 0 + length ts = cc in
            record { ts = ts; is = result_is es ∙ ap (reading_result (length old) p.here.asked.second i) q; words = h.0; count = omega arith }

    pub unheld : length new / record_words < n → Uncleared (text_result S T (length old) (read_message m)) old new (Refused M.NoRoom i)
    unheld h = no_room old p.here.asked.second i read.ts read.is read.words read.count h

    pub answered : {c : ℕ} → c ≡ x.second → n ≤ length new / record_words → Uncleared (text_result S T (length old) (read_message m)) old new (Accepted c n)
    answered ec h =
        let z : p.here.asked.second ≡ _ = sym (ec ∙ p.here.like.second) in
        subst (λ (i : ℕ). Uncleared (text_result S T (length old) (read_message m)) old new (Accepted i n)) z (held old p.here.asked.second i read.ts read.is read.words read.count h)

-- 22 and 21
module _ (S T m : List ℕ) {old new : List ℕ} where
  pub too_long : message_bytes < length m → length new ≡ length old → Uncleared (sound_result S T m (length old)) old new (Refused M.TooLong 0)
  unfolding sound_result
  too_long h l = refused (rw (lt-ltb message_bytes (length m) h)) l

  pub unsound : sound S T ≡ false → length new ≡ length old → Uncleared (message_result S T m (length old)) old new (Refused M.UnsoundTable 0)
  unfolding message_result
  unsound e l = refused (rw e) l

  module _ {r : MessageAnswer} where
    as_result : {a b : MessageResult} → a ≡ b → Uncleared b old new r → Uncleared a old new r
    as_result e u = subst (λ (x : MessageResult). Uncleared x old new r) (sym e) u

    pub short-enough : length m ≤ message_bytes → Uncleared (text_result S T (length old) (read_message m)) old new r → Uncleared (sound_result S T m (length old)) old new r
    unfolding sound_result
    short-enough h u = as_result (rw (le-ltb message_bytes (length m) h)) u

    pub is_sound : sound S T ≡ true → Uncleared (sound_result S T m (length old)) old new r → Uncleared (message_result S T m (length old)) old new r
    unfolding message_result
    is_sound e u = as_result (rw e) u
