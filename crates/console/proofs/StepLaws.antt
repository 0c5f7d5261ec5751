-- The input answered line by line, wherever chunks cut it; a line longer than a message is answered by its first bytes.
use Prim.Native.Nat.{ℕ, zero, suc, ◌+◌, ◌-◌, ◌≤◌, ◌<◌}
use native.Mathlib.Nat.{not-suc-le-zero, min-eq_left, le_of_lt}
use native.Mathlib.Omega.{arith}
use mathlib.Core.Path.{◌≡◌, refl, sym, ap, subst, ◌∙◌}
use mathlib.Core.Bool.{Bool, true, false, cond}
use mathlib.Core.List.{List, [], ◌∷◌, ◌++◌, append_assoc, append-nil}
use lib.Dec.{eqb, leb}
use lib.ListN.{length, take, drop, replicate, length-take, length-drop, length-append}
use lib.Seq.{take_all, take-length}
use borrow.Author.Tests.{leb-true, leb-false, lt-ltb}
use Rattle.grammar.specs.Limits.{message_bytes}
use Rattle.rules.specs.declared.MessageRefusal.TheVariants as M
use Rattle.rules.specs.declared.MessageAnswer.TheVariants as MA
use Rattle.rules.specs.Sound.{sound}
use Rattle.rules.specs.Serving.Answers.{MessageResult, refused_by, sound_result, message_result}
use Rattle.lines.specs.Lines.{before_lf, or_next}
use Rattle.trees.specs.TreeText.{lines_from, lines_of}
use Rattle.console.specs.declared.answers.Style.{Style}
use Rattle.console.specs.declared.answers.Style.TheVariants.{Numbers, Tree}
use Rattle.console.specs.Serving.Joining.{line_so_far}
use Rattle.console.specs.Program.{tree_lines, result_text, answer_text, last_line, answers_to}
use Rattle.console.specs.Serving.Steps.{Says, Takes, Keeps}
use Rattle.console.proofs.JoinLaws.{cut_again}

module _ (s : Style) (S T : List ℕ) (room : ℕ) where
  abbrev answered : List ℕ → List ℕ
  answered m = answer_text S T room s m

  -- ---- a line longer than a message: its first bytes are answered as the whole of it
  long_result : Bool → MessageResult
  long_result good = record { answer = MA.Refused (cond good M.TooLong M.UnsoundTable) 0; words = replicate room 0 }

  long-answer : (good : Bool) → cond good (refused_by room M.TooLong) (refused_by room M.UnsoundTable) ≡ long_result good
  unfolding long_result
  long-answer true = refl
  long-answer false = refl

  too_long : (m : List ℕ) → message_bytes < length m → message_result S T m room ≡ long_result (sound S T)
  unfolding message_result sound_result
  too_long m h = rw (lt-ltb message_bytes (length m) h) (long-answer (sound S T))

  -- neither of the two shows bytes of the message
  long-text : (x : Style) (l m : List ℕ) (good : Bool) → result_text S T room x l (long_result good) ≡ result_text S T room x m (long_result good)
  unfolding long_result tree_lines lines_from lines_of
  long-text Numbers l m good = refl
  long-text Tree l m true = refl
  long-text Tree l m false = refl

  module _ (n : ℕ) (h : message_bytes < n) where
    cut_by : (m : List ℕ) (t : Bool) → leb (length m) n ≡ t → answered (take n m) ≡ answered m
    unfolding answer_text
    cut_by m true e = ap (λ (l : List ℕ). result_text S T room s l (message_result S T l room)) (take_all n m (leb-true (length m) n e))
    cut_by m false e =
        let l : n < length m = leb-false (length m) n e in
        let k : message_bytes < length (take n m) = simp length-take (omega (arith, min-eq_left (le_of_lt l))) in
        ap (result_text S T room s (take n m)) (too_long (take n m) k) ∙ long-text s (take n m) m (sound S T) ∙ ap (result_text S T room s m) (sym (too_long m (omega arith)))

    pub line_cut : (m : List ℕ) → answered (take n m) ≡ answered m
    line_cut m = cut_by m (leb (length m) n) refl

  last_cut : (n : ℕ) → message_bytes < n → (m : List ℕ) → last_line s S T room (take n m) ≡ last_line s S T room m
  last_cut zero h m = absurd (not-suc-le-zero h)
  last_cut (suc n) h [] = refl
  last_cut (suc n) h (b ∷ m) = line_cut (suc n) h (b ∷ m)

  abbrev answers : List ℕ → List ℕ → List ℕ
  answers m l = answers_to s S T room m l

  abbrev by_byte : List ℕ → ℕ → List ℕ → Bool → List ℕ
  by_byte m b l x = elim x [ true ↦ answered m ++ answers [] l | false ↦ answers (m ++ (b ∷ [])) l ]

  module _ (n : ℕ) (h : message_bytes < n) where
    byte_cut : (m : List ℕ) (b : ℕ) (l : List ℕ) (x : Bool) → ((k : List ℕ) → answers (take n k) l ≡ answers k l) → by_byte (take n m) b l x ≡ by_byte m b l x
    byte_cut m b l true f = ap (λ (t : List ℕ). t ++ answers [] l) (line_cut n h m)
    byte_cut m b l false f = sym (f (take n m ++ (b ∷ []))) ∙ ap (λ (t : List ℕ). answers t l) (cut_again n m (b ∷ [])) ∙ f (m ++ (b ∷ []))

    pub answers_cut : (l m : List ℕ) → answers (take n m) l ≡ answers m l
    unfolding answers_to
    answers_cut [] m = last_cut n h m
    answers_cut (b ∷ l) m = byte_cut m b l (eqb b 10) (λ k. answers_cut l k)

  -- ---- a line that ends in the chunk, and one that goes on
  module _ (rest : List ℕ) where
    abbrev Parts : List ℕ → List ℕ → Type 0
    Parts m l = answers m (l ++ rest) ≡ answered (m ++ take (before_lf l) l) ++ answers [] (drop (suc (before_lf l)) l ++ rest)

    one_byte : (m : List ℕ) (b : ℕ) (l : List ℕ) (x : Bool) → or_next x (before_lf l) < suc (length l) → (before_lf l < length l → Parts (m ++ (b ∷ [])) l)
        → by_byte m b (l ++ rest) x ≡ answered (m ++ take (or_next x (before_lf l)) (b ∷ l)) ++ answers [] (drop (suc (or_next x (before_lf l))) (b ∷ l) ++ rest)
    one_byte m b l true h f = ap (λ (t : List ℕ). answered t ++ answers [] (l ++ rest)) (sym (append-nil m))
    one_byte m b l false h f =
        f (omega arith) ∙ ap (λ (t : List ℕ). answered t ++ answers [] (drop (suc (before_lf l)) l ++ rest)) (append_assoc m (b ∷ []) (take (before_lf l) l))

    parts : (l m : List ℕ) → before_lf l < length l → Parts m l
    unfolding answers_to before_lf
    parts [] m h = absurd (not-suc-le-zero h)
    parts (b ∷ l) m h = one_byte m b l (eqb b 10) h (λ k. parts l (m ++ (b ∷ [])) k)

    byte-on : (m : List ℕ) (b : ℕ) (l : List ℕ) (x : Bool) → suc (length l) ≤ or_next x (before_lf l) → (length l ≤ before_lf l → answers (m ++ (b ∷ [])) (l ++ rest) ≡ answers ((m ++ (b ∷ [])) ++ l) rest)
        → by_byte m b (l ++ rest) x ≡ answers (m ++ (b ∷ l)) rest
    byte-on m b l true h f = absurd (not-suc-le-zero h)
    byte-on m b l false h f = f (omega arith) ∙ ap (λ (t : List ℕ). answers t rest) (append_assoc m (b ∷ []) l)

    goes_on : (l m : List ℕ) → length l ≤ before_lf l → answers m (l ++ rest) ≡ answers (m ++ l) rest
    unfolding answers_to before_lf
    goes_on [] m h = ap (λ (t : List ℕ). answers t rest) (sym (append-nil m))
    goes_on (b ∷ l) m h = byte-on m b l (eqb b 10) h (λ k. goes_on l (m ++ (b ∷ [])) k)

  pub says_as : {lent k : ℕ} {m m' old new words : List ℕ} → lent ≡ room → m ≡ m' → Says s S T lent m old new words k → Says s S T room m' old new words k
  says_as {k = k} {m} {m'} {old} {new} {words} e f y = subst (λ (x : List ℕ). Says s S T room x old new words k) f (subst (λ (i : ℕ). Says s S T i m old new words k) e y)

  -- ---- a step: a line ends in the chunk, or the chunk is used up
  module _ (chunk line line' : List ℕ) (n : ℕ) (g : message_bytes < n) (j : line' ≡ line_so_far n line chunk) where
    pub takes_line : {rest old new words : List ℕ} {k : ℕ} → before_lf chunk < length chunk → rest ≡ drop (before_lf chunk + 1) chunk → length words ≤ room → Says s S T room line' old new words k → Takes s S T room chunk line old line' words new rest k
    unfolding line_so_far
    takes_line {rest} {old} {new} {words} {k} h r l y =
        let f : before_lf chunk + 1 ≡ suc (before_lf chunk) = omega arith in
        let whole : List ℕ = line ++ take (before_lf chunk) chunk in
        record {
          text = y.text;
          puts = y.puts;
          splits = λ more.
              parts more chunk line h
              ∙ ap (λ (t : List ℕ). answered whole ++ answers [] (t ++ more)) (sym (r ∙ ap (λ (i : ℕ). drop i chunk) f))
              ∙ ap (λ (t : List ℕ). t ++ answers [] (rest ++ more)) (sym (line_cut n g whole) ∙ ap answered (sym j) ∙ y.rest)
              ∙ append_assoc y.text (tree_lines S T room line' (take k words)) (answers [] (rest ++ more));
          shorter = omega (arith, ap length r, length-drop (before_lf chunk + 1) chunk);
          few = omega (arith, y.few, l);
        }

    pub keeps_line : before_lf chunk ≡ length chunk → Keeps s S T room chunk line line'
    unfolding line_so_far
    keeps_line h =
        let w : line' ≡ take n (line ++ chunk) = j ∙ ap (λ (l : List ℕ). take n (line ++ l)) (ap (λ (i : ℕ). take i chunk) h ∙ take-length chunk) in
        record {
          none_ends = h;
          splits = λ more. goes_on more chunk line (omega (arith, h)) ∙ sym (answers_cut n g more (line ++ chunk)) ∙ ap (λ (t : List ℕ). answers t more) (sym w);
          few = omega (arith, ap length w, length-take n (line ++ chunk), length-append line chunk);
        }
