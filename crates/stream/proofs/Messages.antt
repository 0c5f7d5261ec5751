-- The bytes of a message so far: with its outermost bracket open they are Begun, with it closed a Message, and a byte that the modes refuse is one that the grammar refuses.
-- Whatever follows these bytes, the grammar's machine reads them to a control that the mode is left of; what it says at their end and one byte further is known by its laws.
use Prim.Native.Nat.{ℕ, suc, ◌≤◌, ◌<◌}
use Prim.Native.Char.{code}
use native.Mathlib.Omega.{arith}
use mathlib.Core.Path.{◌≡◌, refl, sym, ap, ◌∙◌, subst}
use mathlib.Core.Bool.{Bool, true, false, cond}
use mathlib.Core.List.{List, [], ◌∷◌, ◌++◌, append_assoc, append-nil}
use mathlib.Core.Option.{Option, some, none}
use lib.ListN.{length, take, length-append}
use lib.Seq.{take-length}
use lib.Dec.{eqb}
use borrow.Author.Tests.{eqb-true}
use Rattle.grammar.specs.Limits.{message_levels}
use Rattle.grammar.specs.Tree.{Json, Items, Items.no_items, Items.item, Scalar}
use Rattle.grammar.specs.Lexis.{blank}
use Rattle.grammar.specs.Grammar.{Text, Text.objects, Text.one_value}
use Rattle.grammar.specs.MessageText.{MessageText, message_lexis}
use Rattle.grammar.specs.Starts.{Valid, Viable}
use Rattle.grammar.specs.Serving.Machine.{Stack, Stack.bottom, Out, Out.whole, Out.fault, Out.deep, Next, Control, end_token, finish, scan, read}
use Rattle.grammar.specs.Serving.Machine.Control.{AtObject, AtValue, AtElement, After, AtFirstKey, AtKey, AtColon, InString, InChar, InToken, InComment}
use Rattle.grammar.specs.Serving.Machine.Message.{message, read_message, token_end}
use Rattle.grammar.proofs.Booleans.{clash, either}
use Rattle.grammar.proofs.Steps.{goes_on, scan_cons}
use Rattle.grammar.proofs.Texts.{message-sound, message-complete, message-fault, message-deep}
use Rattle.stream.specs.Stream.{clears, opens, opened, Message, Message.object, Message.array, Begun}
use Rattle.stream.specs.Serving.Modes.{Mode, Turn, opened_mode, turn}
use Rattle.stream.proofs.Clearing.{Unclear, UnclearTurn, turn-unclear, clearing_stuck}
use Rattle.stream.proofs.Simulation.{forget, held, Based, Framed, Framed.under_array, Framed.under_object, Open, Whole, Turns, Turns.goes, Turns.ends, Turns.sticks, Turns.full, step_turns}

-- Lists
pub length_snoc : (m : List ℕ) (b : ℕ) → length (m ++ (b ∷ [])) ≡ suc (length m)
length_snoc m b = omega (arith, length-append m (b ∷ []))

take_snoc : (m : List ℕ) (b : ℕ) → take (suc (length m)) (m ++ (b ∷ [])) ≡ m ++ (b ∷ [])
take_snoc m b = ap (λ (n : ℕ). take n (m ++ (b ∷ []))) (sym (length_snoc m b)) ∙ take-length (m ++ (b ∷ []))

opened-more : (m l : List ℕ) → opened m ≡ true → opened (m ++ l) ≡ true
opened-more [] l h = clash h refl
opened-more (b ∷ m) l h = h

-- the outermost bracket of m is open
pub record Stands (md : Mode) (fs : List Bool) (m : List ℕ) : Type 0 where
  control : Control message
  stack : Stack
  path : (l : List ℕ) → read_message (m ++ l) ≡ scan message message_levels control stack (length m) l
  mode : forget control ≡ md
  brackets : held control stack ≡ fs
  is_open : Open control stack
  starts : opened m ≡ true
  unclear : Unclear md

-- the outermost bracket of m is closed by its last byte
pub record Closes (m : List ℕ) : Type 0 where
  value : Json
  path : (l : List ℕ) → read_message (m ++ l) ≡ scan message message_levels (After value) (bottom no_items) (length m) l
  all_of_it : Whole (length m) value

at-end : (m : List ℕ) {o : Out} → read_message (m ++ []) ≡ o → read_message m ≡ o
at-end m h = sym (ap (λ (l : List ℕ). read_message l) (append-nil m)) ∙ h

-- a message that has not closed its outermost bracket can't end
not_end : (c : Control message) (k : Stack) (p : ℕ) → Open c k → finish message c k p ≡ fault p
not_end AtObject k p i = absurd i
not_end AtValue k p i = refl
not_end (AtElement a) k p i = refl
not_end (After v) k p (under_array i) = refl
not_end (After v) k p (under_object i) = refl
not_end (AtFirstKey a) k p i = refl
not_end (AtKey a fs) k p i = refl
not_end (AtColon a fs s e cs) k p i = refl
not_end (InString d acc) k p i = refl
not_end (InChar d acc s) k p i = refl
not_end (InToken a s) k p i = go (token_end s) k i
  where
    go : (y : Option Scalar) (k : Stack) → Framed k → end_token message y a k p ≡ fault p
    go (some v) k (under_array i) = refl
    go (some v) k (under_object i) = refl
    go none k i = refl
not_end (InComment c) k p i = absurd i

pub stands-begun : {md : Mode} {fs : List Bool} {m : List ℕ} → Stands md fs m → Begun m
unfolding scan
stands-begun {m = m} z =
    let y = message-fault (at-end m (z.path [] ∙ not_end z.control z.stack (length m) z.is_open)) in
    record { starts = z.starts; viable = rw (take-length m) at y.longest.viable; unclosed = y.invalid }

pub closes-message : {m : List ℕ} → Closes m → Message m
unfolding scan
closes-message {m} z = go z.all_of_it (message-sound (at-end m (z.path [])))
  where
    go : {v : Json} → Whole (length m) v → MessageText m v → Message m
    go Whole.array t = array t
    go Whole.object t = object t

-- One byte more
abbrev pub Reached : Turn → List ℕ → ℕ → Type 0
Reached (Turn.to md fs) m b = Stands md fs (m ++ (b ∷ []))
Reached Turn.ended m b = Closes (m ++ (b ∷ []))
Reached Turn.stuck m b = read_message (m ++ (b ∷ [])) ≡ fault (length m)
Reached Turn.over m b = read_message (m ++ (b ∷ [])) ≡ deep (length m)

module _ {md : Mode} {fs : List Bool} {m : List ℕ} (b : ℕ) (z : Stands md fs m) where
  reach : {n : Next message} {t : Turn} → Turns (length m) n t → UnclearTurn t → ((l : List ℕ) → read_message (m ++ (b ∷ l)) ≡ goes_on message message_levels n (length m) l) → Reached t m b
  reach (goes {c = c} {k = k} e f i) (UnclearTurn.goes u) h =
      record {
        control = c;
        stack = k;
        path = λ l. ap (λ (x : List ℕ). read_message x) (append_assoc m (b ∷ []) l) ∙ h l ∙ ap (λ (p : ℕ). scan message message_levels c k p l) (sym (length_snoc m b));
        mode = e;
        brackets = f;
        is_open = i;
        starts = opened-more m (b ∷ []) z.starts;
        unclear = u;
      }
  reach (ends {v = v} w) u h =
      record {
        value = v;
        path = λ l. ap (λ (x : List ℕ). read_message x) (append_assoc m (b ∷ []) l) ∙ h l ∙ ap (λ (p : ℕ). scan message message_levels (After v) (bottom no_items) p l) (sym (length_snoc m b));
        all_of_it = subst (λ (n : ℕ). Whole n v) (sym (length_snoc m b)) w;
      }
  reach sticks u h = h []
  reach full u h = h []

  pub stands-turn : Reached (turn md fs b) m b
  stands-turn =
      reach (rw (z.mode, z.brackets) at (step_turns {p = length m} z.control z.stack b z.is_open)) (turn-unclear md fs b z.unclear)
      (λ l. z.path (b ∷ l) ∙ scan_cons message message_levels z.control z.stack (length m) b l)

pub stuck_never : (m : List ℕ) (b : ℕ) → read_message (m ++ (b ∷ [])) ≡ fault (length m) → (n : ℕ) → Viable message_lexis n (m ++ (b ∷ [])) → ⊥
stuck_never m b h n v =
    let i : length m < length (m ++ (b ∷ [])) = omega (arith, length_snoc m b) in
    (message-fault h).never i n (rw (take_snoc m b) v)

pub over-not : (m : List ℕ) (b : ℕ) → read_message (m ++ (b ∷ [])) ≡ deep (length m) → Viable message_lexis message_levels (m ++ (b ∷ [])) → ⊥
over-not m b h v =
    let i : suc (length m) ≤ length (m ++ (b ∷ [])) = omega (arith, length_snoc m b) in
    (message-deep h).longest.longest (suc (length m)) (omega arith) i (rw (take_snoc m b) v)

pub over-deeper : (m : List ℕ) (b : ℕ) → read_message (m ++ (b ∷ [])) ≡ deep (length m) → Viable message_lexis (suc message_levels) (m ++ (b ∷ []))
over-deeper m b h = rw (take_snoc m b) at (message-deep h).deeper

-- a byte that clears makes no start of message text
pub clearing_never : {md : Mode} {fs : List Bool} {m : List ℕ} (b : ℕ) → Stands md fs m → clears b ≡ true → Viable message_lexis message_levels (m ++ (b ∷ [])) → ⊥
clearing_never {md} {fs} {m} b z c v = stuck_never m b (subst (λ (t : Turn). Reached t m b) (clearing_stuck b c md fs z.unclear) (stands-turn b z)) message_levels v

-- A message starts
array-stands : Stands (opened_mode false) (false ∷ []) (code "[" ∷ [])
unfolding read_message read blank
array-stands =
    record {
      control = AtElement 0;
      stack = bottom no_items;
      path = λ l. scan_cons message message_levels AtValue (bottom no_items) 0 (code "[") l;
      mode = refl;
      brackets = refl;
      is_open = Based.outermost;
      starts = refl;
      unclear = tt;
    }

object-stands : Stands (opened_mode true) (true ∷ []) (code "{" ∷ [])
unfolding read_message read blank
object-stands =
    record {
      control = AtFirstKey 0;
      stack = bottom no_items;
      path = λ l. scan_cons message message_levels AtValue (bottom no_items) 0 (code "{") l;
      mode = refl;
      brackets = refl;
      is_open = Based.outermost;
      starts = refl;
      unclear = tt;
    }

pub opens-stands : (b : ℕ) → opens b ≡ true → Stands (opened_mode (eqb b (code "{"))) (eqb b (code "{") ∷ []) (b ∷ [])
opens-stands b t = either (eqb b (code "{")) (eqb b (code "[")) (λ e. move b (code "{") (eqb-true b (code "{") e) object-stands) (λ e. move b (code "[") (eqb-true b (code "[") e) array-stands) t
  where
    move : (b c : ℕ) → b ≡ c → Stands (opened_mode (eqb c (code "{"))) (eqb c (code "{") ∷ []) (c ∷ []) → Stands (opened_mode (eqb b (code "{"))) (eqb b (code "{") ∷ []) (b ∷ [])
    move b c e z = subst (λ (x : ℕ). Stands (opened_mode (eqb x (code "{"))) (eqb x (code "{") ∷ []) (x ∷ [])) (sym e) z

-- What follows a message: only blanks keep it message text, and then it ends where it did
after-scan : (k r : List ℕ) (v : Json) (p : ℕ) {x : Items} → scan message message_levels (After v) (bottom no_items) p (k ++ r) ≡ whole x
    → scan message message_levels (After v) (bottom no_items) p k ≡ whole (item v no_items)
unfolding scan
after-scan [] r v p h = refl
after-scan (b ∷ k) r v p {x} h =
    scan_cons message message_levels (After v) (bottom no_items) p b k
    ∙ go (blank b) (λ e. after-scan k r v (suc p) e) (sym (scan_cons message message_levels (After v) (bottom no_items) p b (k ++ r)) ∙ h)
  where
    rest : Bool → Next message
    rest t = cond t (Next.to (After v) (bottom no_items)) Next.stuck

    go : (t : Bool)
        → (scan message message_levels (After v) (bottom no_items) (suc p) (k ++ r) ≡ whole x → scan message message_levels (After v) (bottom no_items) (suc p) k ≡ whole (item v no_items))
        → goes_on message message_levels (rest t) p (k ++ r) ≡ whole x → goes_on message message_levels (rest t) p k ≡ whole (item v no_items)
    go true ih e = ih e
    go false ih e = let z : ◌≡◌ {A = ℕ} 0 1 = cc in absurd (omega arith)

valid_value : {n : ℕ} {l : List ℕ} {js : Items} → Text message_lexis n l js → (j : Json) × (js ≡ item j no_items)
valid_value (objects t e) = clash t refl
valid_value (one_value {j = j} t w v u) = (j, refl)

valid_text : {l : List ℕ} → Valid message_lexis message_levels l → (j : Json) × MessageText l j
valid_text {l} v = let z = valid_value v.1 in (z.0, subst (λ (js : Items). Text message_lexis message_levels l js) z.1 v.1)

pub closed-viable : {m : List ℕ} (k : List ℕ) → Closes m → Viable message_lexis message_levels (m ++ k) → Valid message_lexis message_levels (m ++ k)
closed-viable {m} k z v =
    let t = valid_text v.1 in
    let e = sym (z.path (k ++ v.0)) ∙ ap (λ (l : List ℕ). read_message l) (sym (append_assoc m k v.0)) ∙ message-complete t.1 in
    (item z.value no_items, message-sound (z.path k ∙ after-scan k v.0 z.value (length m) e))

whole-end : {a e : ℕ} {v : Json} → Whole a v → Whole e v → a ≡ e
whole-end Whole.array Whole.array = refl
whole-end Whole.object Whole.object = refl

pub message-value : {m : List ℕ} → Message m → (j : Json) × MessageText m j × Whole (length m) j
message-value (object {fs = fs} t) = (_, t, Whole.object)
message-value (array {js = js} t) = (_, t, Whole.array)

pub closed-whole : {m : List ℕ} (k : List ℕ) → Closes m → Message (m ++ k) → k ≡ []
closed-whole {m} k z w =
    let t = message-value w in
    let c = z.path k ∙ after-scan k [] z.value (length m) (ap (λ (l : List ℕ). scan message message_levels (After z.value) (bottom no_items) (length m) l) (append-nil k) ∙ sym (z.path k) ∙ message-complete t.1) in
    let e : t.0 ≡ z.value = same_item (sym (message-complete t.1) ∙ c) in
    none_left k (omega (arith, length-append m k, whole-end (subst (λ (j : Json). Whole (length (m ++ k)) j) e t.2) z.all_of_it))
  where
    same_item : {j v : Json} → whole (item j no_items) ≡ whole (item v no_items) → j ≡ v
    same_item h = cc

    none_left : (k : List ℕ) → length k ≡ 0 → k ≡ []
    none_left [] h = refl
    none_left (b ∷ k) h = absurd (omega arith)
