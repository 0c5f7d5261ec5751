-- The message answer as a function is the one outcome that the order of refusals allows, and the place of its refusal is the only one.
-- The idea: each stage refuses where nothing before it applies, or shows that its refusal doesn't apply. The bytes decide the text and what it asks, so two outcomes agree.
use Prim.Native.Nat.{ℕ, ◌/◌, ◌≤◌, ◌<◌}
use native.Mathlib.Omega.{arith}
use mathlib.Core.Path.{◌≡◌, refl, sym, ap, ◌∙◌, subst}
use mathlib.Core.Logic.{inl, inr, ⊎_elim}
use mathlib.Core.Bool.{Bool, true, false, cond}
use mathlib.Core.List.{List, [], ◌∷◌}
use mathlib.Core.Option.{Option, none, some}
use lib.Dec.{ltb}
use lib.ListN.{length}
use borrow.Author.Tests.{ltb-true, ltb-false}
use Rattle.grammar.specs.Limits.{message_bytes, record_words}
use Rattle.grammar.specs.Tree.{Json, start_of}
use Rattle.grammar.specs.Tree.Items.{no_items, item}
use Rattle.grammar.specs.Keys.{keys_once, Repeats, Earliest}
use Rattle.grammar.specs.MessageText.{MessageText, message_lexis}
use Rattle.grammar.specs.Serving.Repeats.{first_repeat}
use Rattle.grammar.specs.Serving.Machine.{Out}
use Rattle.grammar.specs.Serving.Machine.Out.{whole, fault, deep}
use Rattle.grammar.specs.Serving.Machine.Message.{read_message}
use Rattle.grammar.proofs.Starts.{longest_unique}
use Rattle.grammar.proofs.Texts.{message-text, message-item, message-fault, message-deeper, message_unique, message_valid_or_deep}
use Rattle.grammar.proofs.Repeats.{first-once, message_earliest, earliest_only}
use Rattle.rules.specs.declared.MessageRefusal.{MessageRefusal}
use Rattle.rules.specs.declared.MessageRefusal.TheVariants as M
use Rattle.rules.specs.declared.MessageAnswer.{MessageAnswer}
use Rattle.rules.specs.declared.MessageAnswer.TheVariants.{Accepted, Refused}
use Rattle.rules.specs.Rows.{row_count}
use Rattle.rules.specs.Sound.{sound}
use Rattle.rules.specs.Envelope.{Envelope, envelope, Names, may_use, Asked, arguments_of, Asks, Asks.command}
use Rattle.rules.specs.Readings.{Typed, strict}
use Rattle.rules.specs.Refusals.{FirstOf}
use Rattle.rules.specs.MessageAnswers.{message_order, Encloses, AsksIn, ReadsAsked, MessageApplies, MessagePlace, MessageOutcome, Readable, Held}
use Rattle.rules.specs.MessageAnswers.MessageOutcome.{accepted, refused}
use Rattle.rules.specs.Serving.Answers.{MessageResult, command_of, Asking.asks, Asking.refuses, command_asking, envelope_asking, asking, asked_reading, refused_at, refused_by, accepted_with, reading_result, asked_result, keys_result, value_result, text_result, sound_result, message_result}
use Rattle.rules.proofs.Lists.{clash, none-not-some}
use Rattle.rules.proofs.Refusals.{first-has, first-only}
use Rattle.rules.proofs.First.{decided}
use Rattle.rules.proofs.SoundFacts.{sound-facts}
use Rattle.rules.proofs.ReadingExact.{complete, unique, correct}
use Rattle.rules.proofs.Commands.{command-found, command_missed}

-- a test that is not false is true
pub true_of : (b : Bool) → (b ≡ false → ⊥) → b ≡ true
true_of true h = refl
true_of false h = absurd (h refl)

-- the refusals that are left once a stage is passed
abbrev after_band : List MessageRefusal
after_band = M.NoReading ∷ M.NoRoom ∷ []

abbrev after_command : List MessageRefusal
after_command = M.NotOutOfBand ∷ after_band

abbrev after_envelope : List MessageRefusal
after_envelope = M.UnknownCommand ∷ after_command

abbrev after_keys : List MessageRefusal
after_keys = M.NotEnvelope ∷ after_envelope

abbrev after_text : List MessageRefusal
after_text = M.RepeatedKey ∷ after_keys

abbrev after_size : List MessageRefusal
after_size = M.NotText ∷ M.TooDeep ∷ after_text

-- in a sound table a message asks for one thing
module _ (S T : List ℕ) (ok : sound S T ≡ true) where
  one_command : {x y : List ℕ} {c d : ℕ} → x ≡ y → Names S T x c → Names S T y d → c ≡ d
  one_command {x} {y} {c} {d} e n o = (sound-facts S T ok).one_command y c d (subst (λ (z : List ℕ). Names S T z c) e n) o

  pub same_asked : {i j : Json} {a b : Asked} → i ≡ j → Asks S T i a → Asks S T j b → a ≡ b
  same_asked {i} {j} {a} {b} p (command {v} {c} e n u z) (command {v = w} {c = d} f o t y) =
      let g : envelope j ≡ some v = ap envelope (sym p) ∙ e in
      let q : v ≡ w = cc in
      let r : c ≡ d = one_command (ap (λ (x : Envelope). x.name) q) n o in
      z ∙ ap (λ (x : Envelope). arguments_of T x c) q ∙ ap (arguments_of T w) r ∙ sym y

module _ (S T m : List ℕ) (room : ℕ) where
  abbrev Applies : MessageRefusal → Type 0
  Applies x = MessageApplies x S T m room

  abbrev Outcome : MessageResult → Type 0
  Outcome r = MessageOutcome S T m room r.answer r.words

  -- nothing before the list applies, so the first of it that does is the first of all
  abbrev From : List MessageRefusal → Type 0
  From xs = (x : MessageRefusal) → FirstOf Applies xs x → FirstOf Applies message_order x

  here : (y : MessageRefusal) (xs : List MessageRefusal) → From (y ∷ xs) → Applies y → {p : ℕ} → MessagePlace y S T m p → Outcome (refused_at room y p)
  here y xs k a l = refused (k y (inl (refl, a))) l refl refl

  past : (y : MessageRefusal) (xs : List MessageRefusal) → From (y ∷ xs) → (Applies y → ⊥) → From xs
  past y xs k n x h = k x (inr (n, h))

  -- no refusal applies to what is readable and held
  pub unrefused : {a : Asked} {ts : List Typed} → Readable S T m a ts → Held room ts → (x : MessageRefusal) → Applies x → ⊥
  unrefused r f M.UnsoundTable e = clash r.sound_table e
  unrefused r f M.TooLong l = omega (arith, r.short)
  unrefused r f M.NotText (h, g) = h r.value r.is_text
  unrefused r f M.TooDeep (e, t) = message_valid_or_deep r.is_text t
  unrefused r f M.RepeatedKey (j, t, e) = clash (subst (λ (x : Json). keys_once x ≡ true) (message_unique r.is_text t) r.each_key_once) e
  unrefused r f M.NotEnvelope (j, t, e) = go r.asks
    where
      go : {a : Asked} → Asks S T r.value a → ⊥
      go (command {v} p n u z) = none-not-some (sym e ∙ ap envelope (sym (message_unique r.is_text t)) ∙ p)
  unrefused r f M.UnknownCommand (v, w, h) = go r.asks
    where
      go : {a : Asked} → Asks S T r.value a → ⊥
      go (command {v = u} {c} p n b z) =
          let q : envelope w.value ≡ some u = ap envelope (sym (message_unique r.is_text w.is_text)) ∙ p in
          let g = w.proper in
          let e : u ≡ v = cc in
          h c (subst (λ (x : Envelope). Names S T x.name c) e n)
  unrefused r f M.NotOutOfBand (v, w, d, o, h) = go r.asks
    where
      go : {a : Asked} → Asks S T r.value a → ⊥
      go (command {v = u} {c} p n b z) =
          let q : envelope w.value ≡ some u = ap envelope (sym (message_unique r.is_text w.is_text)) ∙ p in
          let g = w.proper in
          let e : u ≡ v = cc in
          let i : c ≡ d = one_command S T r.sound_table (ap (λ (x : Envelope). x.name) e) n o in
          let y : may_use T c u.out_of_band ≡ may_use T d v.out_of_band = cc in
          clash b (y ∙ h)
  unrefused {ts = ts} r f M.NoReading (b, w, h) =
      h ts (subst (λ (x : Asked). ReadsAsked S T x ts) (same_asked S T r.sound_table (message_unique r.is_text w.is_text) r.asks w.asks) r.reads)
  unrefused {a} {ts} r f M.NoRoom (b, w, us, g, l) =
      let e : a ≡ b = same_asked S T r.sound_table (message_unique r.is_text w.is_text) r.asks w.asks in
      let z : ts ≡ us = unique strict S T (sound-facts S T r.sound_table) (subst (λ (x : Asked). ReadsAsked S T x ts) e r.reads) g in
      let n : length ts ≡ length us = ap length z in
      omega arith

  module _ (ok : sound S T ≡ true) (short : length m ≤ message_bytes) (j : Json) (t : MessageText m j) (once : keys_once j ≡ true) where
    -- 29 and 30
    read : (a : Asked) → Asks S T j a → From after_band → Outcome (reading_result room a.second (start_of a.value) (asked_reading S T a))
    read a q k = go (asked_reading S T a) refl
      where
        asks_in : AsksIn S T m a
        asks_in = record { value = j; is_text = t; asks = q }

        fits : (ts : List Typed) → ReadsAsked S T a ts → (b : Bool) → ltb (room / record_words) (length ts) ≡ b
            → Outcome (cond b (refused_at room M.NoRoom (start_of a.value)) (accepted_with room a.second ts))
        fits ts r true e =
            here M.NoRoom [] (past M.NoReading (M.NoRoom ∷ []) k (λ (b, w, h). h ts
            (subst (λ (x : Asked). ReadsAsked S T x ts) (same_asked S T ok (message_unique t w.is_text) q w.asks) r)))
            (a, asks_in, ts, r, ltb-true (room / record_words) (length ts) e) (a, asks_in, refl)
        fits ts r false e =
            accepted asks_in r
            (unrefused (record { sound_table = ok; short = short; value = j; is_text = t; each_key_once = once; asks = q; reads = r }) (ltb-false (room / record_words) (length ts) e)) refl refl

        go : (o : Option (List Typed)) → asked_reading S T a ≡ o → Outcome (reading_result room a.second (start_of a.value) o)
        go none e = here M.NoReading (M.NoRoom ∷ []) k (a, asks_in, λ ts r. none-not-some (sym e ∙ complete strict S T (sound-facts S T ok) r)) (a, asks_in, refl)
        go (some ts) e = fits ts (correct strict S T (sound-facts S T ok) a.value a.ref a.array ts e) (ltb (room / record_words) (length ts)) refl

    -- 26 to 28
    module _ (v : Envelope) (e : envelope j ≡ some v) where
      same-envelope : (u : Envelope) → Encloses m u → u ≡ v
      same-envelope u w = let g = w.proper in let h : envelope w.value ≡ some v = ap envelope (sym (message_unique t w.is_text)) ∙ e in cc

      encloses : Encloses m v
      encloses = record { value = j; is_text = t; proper = e }

      by-band : (c : ℕ) → Names S T v.name c → From after_command
          → (b : Bool) → may_use T c v.out_of_band ≡ b → Outcome (asked_result S T room (cond b (asks (arguments_of T v c)) (refuses M.NotOutOfBand)))
      by-band c n k false b = here M.NotOutOfBand after_band k (v, encloses, c, n, b) refl
      by-band c n k true b =
          read (arguments_of T v c) (command e n b refl) (past M.NotOutOfBand after_band k (λ (u, w, d, o, h).
          let p = same-envelope u w in
          let i : d ≡ c = one_command S T ok (ap (λ (x : Envelope). x.name) p) o n in
          let y : may_use T c v.out_of_band ≡ may_use T d u.out_of_band = cc in
          clash b (y ∙ h)))

      by-command : From after_envelope
          → (o : Option ℕ) → command_of S T v ≡ o → Outcome (asked_result S T room (command_asking S T v o))
      by-command k none f =
          here M.UnknownCommand after_command k
          (v, encloses, λ c n. command_missed S T v.name (row_count T) 0 (omega arith) f c (omega arith) n) refl
      by-command k (some c) f =
          let n = command-found S T v.name (row_count T) 0 c (omega arith) f in
          by-band c n (past M.UnknownCommand after_command k (λ (u, w, h).
          h c (subst (λ (x : Envelope). Names S T x.name c) (sym (same-envelope u w)) n))) (may_use T c v.out_of_band) refl

    asked : From after_keys → Outcome (asked_result S T room (asking S T j))
    asked k = go (envelope j) refl
      where
        go : (o : Option Envelope) → envelope j ≡ o → Outcome (asked_result S T room (envelope_asking S T o))
        go none e = here M.NotEnvelope after_envelope k (j, t, e) refl
        go (some v) e =
            by-command v e (past M.NotEnvelope after_envelope k (λ (i, u, f).
            none-not-some (sym f ∙ ap envelope (sym (message_unique t u)) ∙ e))) (command_of S T v) refl

  module _ (ok : sound S T ≡ true) (short : length m ≤ message_bytes) where
    -- 25
    keys : (j : Json) → MessageText m j
        → From after_text → Outcome (value_result S T room j)
    keys j t k = go (first_repeat j) refl
      where
        go : (o : Option ℕ) → first_repeat j ≡ o → Outcome (keys_result S T room j o)
        go none e =
            let once = (first-once j).0 e in
            asked ok short j t once (past M.RepeatedKey after_keys k
            (λ (i, u, f). clash (subst (λ (x : Json). keys_once x ≡ true) (message_unique t u) once) f))
        go (some p) e =
            here M.RepeatedKey after_keys k (j, t, decided (keys_once j) (λ once. none-not-some (sym ((first-once j).1 once) ∙ e))) (j, t, (message_earliest t p).0 e)

    -- 23 and 24
    text : From after_size → Outcome (text_result S T room (read_message m))
    text k = go (read_message m) refl
      where
        go : (o : Out) → read_message m ≡ o → Outcome (text_result S T room o)
        go (whole no_items) e = let z = (message-item e).1 in let y : ◌≡◌ {A = ℕ} 0 1 = cc in absurd (omega arith)
        go (whole (item j js)) e =
            let i = message-item e in
            let z = i.1 in
            let q : i.0 ≡ j = cc in
            let t : MessageText m j = subst (MessageText m) q i.2 in
            keys j t (past M.TooDeep after_text (past M.NotText (M.TooDeep ∷ after_text) k (λ (h, g). h j t)) (λ (n, d). message_valid_or_deep t d))
        go (fault n) e =
            here M.NotText (M.TooDeep ∷ after_text) k
            ((λ j t. let z = (message-text m j).1 t in let y : ◌≡◌ {A = ℕ} 0 1 = cc in omega arith), λ (i, d). let z = (message-deeper m i).1 d in let y : ◌≡◌ {A = ℕ} 0 1 = cc in omega arith)
            (message-fault e).longest
        go (deep n) e = let d = (message-deeper m n).0 e in here M.TooDeep after_text (past M.NotText (M.TooDeep ∷ after_text) k (λ (h, g). g (n, d))) (n, d) d.longest

  -- 22
  size : sound S T ≡ true → From (M.TooLong ∷ after_size) → Outcome (sound_result S T m room)
  unfolding sound_result
  size ok k = go (ltb message_bytes (length m)) refl
    where
      go : (b : Bool) → ltb message_bytes (length m) ≡ b → Outcome (cond b (refused_by room M.TooLong) (text_result S T room (read_message m)))
      go true e = here M.TooLong after_size k (ltb-true message_bytes (length m) e) refl
      go false e = let l = ltb-false message_bytes (length m) e in text ok l (past M.TooLong after_size k (λ (h : message_bytes < length m). omega arith))

  -- The order of refusals decides every message: there is one outcome, the one that `message_result` gives.
  pub message-outcome : Outcome (message_result S T m room)
  unfolding message_result
  message-outcome = go (sound S T) refl
    where
      go : (b : Bool) → sound S T ≡ b → Outcome (cond b (sound_result S T m room) (refused_by room M.UnsoundTable))
      go true e = size e (past M.UnsoundTable (M.TooLong ∷ after_size) (λ x h. h) (λ f. clash e f))
      go false e = here M.UnsoundTable (M.TooLong ∷ after_size) (λ x h. h) e refl

  -- any refusal but one comes of a sound table, so what is asked is one thing
  sound-first : {x : MessageRefusal} → (M.UnsoundTable ≡ x → ⊥) → FirstOf Applies message_order x → sound S T ≡ true
  sound-first n h = ⊎_elim (λ p. absurd (n p.0)) (λ q. true_of (sound S T) q.0) h

  asked-place : {p q : ℕ} → sound S T ≡ true → (a : Asked) × AsksIn S T m a × (p ≡ start_of a.value) → (a : Asked) × AsksIn S T m a × (q ≡ start_of a.value) → p ≡ q
  asked-place ok (a, u, e) (b, w, f) = e ∙ ap (λ (x : Asked). start_of x.value) (same_asked S T ok (message_unique u.is_text w.is_text) u.asks w.asks) ∙ sym f

  -- the refusal that is given has one place
  pub message_place-only : {p q : ℕ} (x : MessageRefusal) → FirstOf Applies message_order x → MessagePlace x S T m p → MessagePlace x S T m q → p ≡ q
  message_place-only M.UnsoundTable h a b = a ∙ sym b
  message_place-only M.TooLong h a b = a ∙ sym b
  message_place-only M.NotText h a b = longest_unique message_lexis a b
  message_place-only M.TooDeep h a b = longest_unique message_lexis a b
  message_place-only {p} M.RepeatedKey h (i, t, a) (j, u, b) = earliest_only (subst (λ (k : Json). Earliest (Repeats k) p) (message_unique t u) a) b
  message_place-only M.NotEnvelope h a b = a ∙ sym b
  message_place-only M.UnknownCommand h a b = a ∙ sym b
  message_place-only M.NotOutOfBand h a b = a ∙ sym b
  message_place-only M.NoReading h a b = asked-place (sound-first (λ e. let z : ◌≡◌ {A = ℕ} 0 1 = cc in omega arith) h) a b
  message_place-only M.NoRoom h a b = asked-place (sound-first (λ e. let z : ◌≡◌ {A = ℕ} 0 1 = cc in omega arith) h) a b

  same_outcome : {a b : MessageAnswer} {w u : List ℕ} → MessageOutcome S T m room a w → MessageOutcome S T m room b u → (a ≡ b) × (w ≡ u)
  same_outcome (accepted {a} {ts} p r n e f) (accepted {a = b} {ts = us} q g o i k) =
      let ok = true_of (sound S T) (n M.UnsoundTable) in
      let z : a ≡ b = same_asked S T ok (message_unique p.is_text q.is_text) p.asks q.asks in
      let y : ts ≡ us = unique strict S T (sound-facts S T ok) (subst (λ (x : Asked). ReadsAsked S T x ts) z r) g in (
        e ∙ ap (λ (x : Asked). Accepted x.second (length ts)) z ∙ ap (λ (x : List Typed). Accepted b.second (length x)) y ∙ sym i,
        f ∙ ap (λ (x : List Typed). (accepted_with room 0 x).words) y ∙ sym k,
      )
  same_outcome (accepted p r n e f) (refused {x} h l i k) = absurd (n x (first-has Applies message_order h))
  same_outcome (refused {x} h l i k) (accepted p r n e f) = absurd (n x (first-has Applies message_order h))
  same_outcome (refused {x} {p} h l e f) (refused {x = y} {p = q} g o i k) =
      let z : x ≡ y = first-only Applies message_order h g in
      let w : p ≡ q = message_place-only y g (subst (λ (v : MessageRefusal). MessagePlace v S T m p) z l) o in
      (e ∙ ap (λ (v : MessageRefusal). Refused v p) z ∙ ap (Refused y) w ∙ sym i, f ∙ sym k)

  pub message-outcome-only : (a : MessageAnswer) (w : List ℕ) → MessageOutcome S T m room a w → (a ≡ (message_result S T m room).answer) × (w ≡ (message_result S T m room).words)
  message-outcome-only a w h = same_outcome h message-outcome

  -- every refusal that is given has a place
  pub message-placed : (x : MessageRefusal) → FirstOf Applies message_order x → (p : ℕ) × MessagePlace x S T m p
  message-placed x h = go message-outcome
    where
      go : {a : MessageAnswer} {w : List ℕ} → MessageOutcome S T m room a w → (p : ℕ) × MessagePlace x S T m p
      go (accepted p r n e f) = absurd (n x (first-has Applies message_order h))
      go (refused {p = p} g l e f) = (p, subst (λ (v : MessageRefusal). MessagePlace v S T m p) (first-only Applies message_order g h) l)

  -- the place that is given is its own
  pub message-refused_at : {x : MessageRefusal} {p : ℕ} → (message_result S T m room).answer ≡ Refused x p → MessagePlace x S T m p
  message-refused_at {x} {p} r = go message-outcome
    where
      go : Outcome (message_result S T m room) → MessagePlace x S T m p
      go (accepted h g k e w) = let z : ◌≡◌ {A = ℕ} 0 1 = cc in absurd (omega arith)
      go (refused {x = y} {p = q} h l e w) =
          let u : y ≡ x = cc in
          let v : q ≡ p = cc in
          subst (λ (i : ℕ). MessagePlace x S T m i) v (subst (λ (z : MessageRefusal). MessagePlace z S T m q) u l)
