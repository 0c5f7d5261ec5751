-- Each derivation of the grammar is a run of the machine to the same tree.
-- `Runs c k p l d k' q r`: from control c and stack k at l the machine comes to d and k' at r. Each production is put together from such runs.
use Prim.Native.Nat.{ℕ, suc, ◌+◌, ◌<◌}
use Prim.Native.Char.{code}
use native.Mathlib.Omega.{arith}
use mathlib.Core.Path.{◌≡◌, refl, ap, ◌∙◌}
use mathlib.Core.Bool.{Bool, true, false, cond}
use mathlib.Core.List.{List, [], ◌∷◌, reverse_aux}
use lib.Dec.{eqb}
use borrow.Author.Tests.{lt-ltb}
use Rattle.grammar.specs.Tree.{Scalar, Json, Json.leaf, Json.arr, Json.obj, Items, Items.no_items, Items.item, Fields, Fields.no_fields, Fields.field}
use Rattle.grammar.specs.Grammar.{Comment, Comment.text_end, Comment.line_end, Comment.free, Blanks, Blanks.none, Blanks.blank, Blanks.comment, Chars, Chars.close}
use Rattle.grammar.specs.Grammar.{Chars.char, Value, Value.unquoted, Value.string, Value.array, Value.object, ArrayBody, ArrayBody.no_elements, ArrayBody.some_elements}
use Rattle.grammar.specs.Grammar.{Elements, Elements.element, MoreElements, MoreElements.end_array, MoreElements.next_element, ObjectBody, ObjectBody.no_members}
use Rattle.grammar.specs.Grammar.{ObjectBody.some_members, Members, Members.member, MoreMembers, MoreMembers.end_object, MoreMembers.next_member, Objects, Objects.no_more}
use Rattle.grammar.specs.Grammar.{Objects.one_more, Text, Text.objects, Text.one_value}
use Rattle.grammar.specs.Serving.Machine.{CharStep, CharStep.stay, CharStep.bad, TokenStep, TokenStep.on, TokenStep.last, TokenStep.past, TokenStep.off, Dialect, Stack}
use Rattle.grammar.specs.Serving.Machine.{Stack.bottom, Stack.in_array, Stack.in_object, StringRole, StringRole.as_value, StringRole.as_key, Next, Next.to, Control, reverse_items}
use Rattle.grammar.specs.Serving.Machine.{reverse_fields, depth, skip, end_string, in_char, in_token, step, scan, read, Out.whole}
use Rattle.grammar.specs.Serving.Machine.Control.{AtObject, AtValue, AtElement, After, AtFirstKey, AtKey, AtColon, InString, InChar, InToken, InComment}
use Rattle.grammar.proofs.TokenRuns.{Structural, Structural.begin_array, Structural.begin_object, Structural.name_separator, Structural.value_separator, CharRun}
use Rattle.grammar.proofs.TokenRuns.{CharRun.char_whole, CharRun.char_on, TokenRun, TokenRun.token_last, TokenRun.token_finished, TokenRun.token_past, TokenRun.token_on}
use Rattle.grammar.proofs.TokenRuns.{CharStarts, CharStarts.char_starts, TokenStarts, TokenStarts.token_starts, Solid, Stopped, TokensComplete}

module _ (D : Dialect) (L : TokensComplete D) (lim : ℕ) where
  pub record Runs (c : Control D) (k : Stack) (p : ℕ) (l : List ℕ) (d : Control D) (k' : Stack) (q : ℕ) (r : List ℕ) : Type 0 where
    pub path : scan D lim c k p l ≡ scan D lim d k' q r

  pub then : {c d e : Control D} {k k' k'' : Stack} {p o q : ℕ} {l m r : List ℕ} → Runs c k p l d k' o m → Runs d k' o m e k'' q r → Runs c k p l e k'' q r
  then x y = record { path = x.path ∙ y.path }

  pub byte : {c d : Control D} {k k' : Stack} {p b : ℕ} {l : List ℕ} → step D lim c k p b ≡ to d k' → Runs c k p (b ∷ l) d k' (suc p) l
  unfolding scan
  byte e = record { path = rw (scan, e) }

  -- two controls that take a byte alike
  alike : {c d : Control D} {k k' : Stack} {p b : ℕ} {l : List ℕ} → step D lim c k p b ≡ step D lim d k' p b → Runs c k p (b ∷ l) d k' p (b ∷ l)
  unfolding scan
  alike e = record { path = rw (scan, e) refl }

  -- controls that pass over blanks
  data Skips : Control D → Type 0 where
    at_object : Skips AtObject
    at_value : Skips AtValue
    at_element : {a : ℕ} → Skips (AtElement a)
    after : {v : Json} → Skips (After v)
    at_first_key : {a : ℕ} → Skips (AtFirstKey a)
    at_key : {a : ℕ} {fs : Fields} → Skips (AtKey a fs)
    at_colon : {a s e : ℕ} {fs : Fields} {cs : List ℕ} → Skips (AtColon a fs s e cs)

  step-blank : {c : Control D} → Skips c → (k : Stack) (p b : ℕ) → D.lexis.blank b ≡ true → step D lim c k p b ≡ to c k
  step-blank at_object k p b e = simp e
  step-blank at_value k p b e = simp e
  step-blank at_element k p b e = simp e
  step-blank after k p b e = simp e
  step-blank at_first_key k p b e = simp e
  step-blank at_key k p b e = simp e
  step-blank at_colon k p b e = simp e

  step-comment : {c : Control D} → Skips c → (k : Stack) (p b : ℕ) → D.lexis.blank b ≡ false → D.lexis.comment b ≡ true → step D lim c k p b ≡ to (InComment c) k
  step-comment at_object k p b e f = simp (e, f)
  step-comment at_value k p b e f = simp (e, f)
  step-comment at_element k p b e f = simp (e, f)
  step-comment after k p b e f = simp (e, f)
  step-comment at_first_key k p b e f = simp (e, f)
  step-comment at_key k p b e f = simp (e, f)
  step-comment at_colon k p b e f = simp (e, f)

  comment-run : {p q : ℕ} {l r : List ℕ} → Comment p l q r → (c : Control D) (k : Stack) → Runs (InComment c) k p l c k q r
  unfolding scan
  comment-run text_end c k = record { path = refl }
  comment-run line_end c k = byte refl
  comment-run (free e w) c k = then (byte (simp e)) (comment-run w c k)

  blanks_run : {p q : ℕ} {l r : List ℕ} {c : Control D} → Blanks D.lexis p l q r → Skips c → (k : Stack) → Runs c k p l c k q r
  blanks_run none s k = record { path = refl }
  blanks_run (blank t w) s k = then (byte (step-blank s k _ _ t)) (blanks_run w s k)
  blanks_run (comment t n w) s k = then (byte (step-comment s k _ _ (L.comment_no_blank _ t) t)) (then (comment-run n _ k) (blanks_run w s k))

  -- a byte that is no blank and starts no comment
  pub skip-solid : {b : ℕ} → Solid D b → (c : Control D) (k : Stack) (x : Next D) → skip D c k b x ≡ x
  skip-solid s c k x = simp (s.no_blank, s.no_comment)

  -- after a value stands a byte that continues no word and no number, or the end
  blanks_stopped : {p q b : ℕ} {l r : List ℕ} → Blanks D.lexis p l q (b ∷ r) → D.stops b ≡ true → Stopped D l
  blanks_stopped none e = e
  blanks_stopped (blank t w) e = L.stops_blank _ t
  blanks_stopped (comment t n w) e = L.stops_comment _ t

  end-stopped : {p q : ℕ} {l : List ℕ} → Blanks D.lexis p l q [] → Stopped D l
  end-stopped none = tt
  end-stopped (blank t w) = L.stops_blank _ t
  end-stopped (comment t n w) = L.stops_comment _ t

  elements_stopped : {n p q : ℕ} {l r : List ℕ} {js : Items} → MoreElements D.lexis n p l q r js → Stopped D l
  elements_stopped (end_array w) = blanks_stopped w (L.stops_structural Structural.end_array)
  elements_stopped (next_element w u e) = blanks_stopped w (L.stops_structural value_separator)

  members-stopped : {n p q : ℕ} {l r : List ℕ} {fs : Fields} → MoreMembers D.lexis n p l q r fs → Stopped D l
  members-stopped (end_object w) = blanks_stopped w (L.stops_structural Structural.end_object)
  members-stopped (next_member w u e) = blanks_stopped w (L.stops_structural value_separator)

  objects-stopped : {n p : ℕ} {l : List ℕ} {js : Items} → Objects D.lexis n p l js → Stopped D l
  objects-stopped (no_more w) = end-stopped w
  objects-stopped (one_more w v e) = blanks_stopped w (L.stops_structural begin_object)

  -- strings: where a step inside a character leads
  abbrev pub char_to : CharStep D.CharState → StringRole → List ℕ → Control D
  char_to (stay s) d acc = InChar d acc s
  char_to (CharStep.char c) d acc = InString d (c ∷ acc)
  char_to bad d acc = AtValue

  char-steps : {y : CharStep D.CharState} {p q c : ℕ} {l r : List ℕ} → CharRun D y p l q r c → (d : StringRole) (acc : List ℕ) (k : Stack)
      → in_char D y d acc k ≡ to (char_to y d acc) k
  char-steps char_whole d acc k = refl
  char-steps (char_on w) d acc k = refl

  pub in_char-run : {y : CharStep D.CharState} {p q c : ℕ} {l r : List ℕ} → CharRun D y p l q r c
      → (d : StringRole) (acc : List ℕ) (k : Stack) → Runs (char_to y d acc) k p l (InString d (c ∷ acc)) k q r
  in_char-run char_whole d acc k = record { path = refl }
  in_char-run (char_on w) d acc k = then (byte (char-steps w d acc k)) (in_char-run w d acc k)

  pub char-run : {p q c : ℕ} {l r : List ℕ} → CharStarts D p l q r c → (d : StringRole) (acc : List ℕ) (k : Stack) → Runs (InString d acc) k p l (InString d (c ∷ acc)) k q r
  char-run (char_starts t w) d acc k = then (byte (simp t (char-steps w d acc k))) (in_char-run w d acc k)

  pub chars-run : {p q : ℕ} {l r cs : List ℕ} → Chars D.lexis p l q r cs → (d : StringRole) (acc : List ℕ) (k : Stack)
      → Runs (InString d acc) k p l (end_string D d q (reverse_aux acc cs)) k q r
  chars-run (close t) d acc k = byte (simp t)
  chars-run (char c w) d acc k = then (char-run (L.chars c) d acc k) (chars-run w d _ k)

  -- words and numbers
  abbrev pub token_to : TokenStep D.TokenState → ℕ → ℕ → Control D
  token_to (on s) a p = InToken a s
  token_to (last v) a p = After (leaf a p v)
  token_to (past v) a p = AtValue
  token_to off a p = AtValue

  token-steps : {y : TokenStep D.TokenState} {p q : ℕ} {l r : List ℕ} {v : Scalar} → TokenRun D y (suc p) l q r v → (a b : ℕ) (k : Stack)
      → in_token D y lim a k p b ≡ to (token_to y a (suc p)) k
  token-steps {y = on s} w a b k = refl
  token-steps {y = last v} w a b k = refl
  token-steps {y = past v} w a b k = none-past w
    where
      none-past : {A : Type 0} {v u : Scalar} {p q : ℕ} {l r : List ℕ} → TokenRun D (past v) p l q r u → A
      none-past = elim [ ]
  token-steps {y = off} w a b k = none-off w
    where
      none-off : {A : Type 0} {u : Scalar} {p q : ℕ} {l r : List ℕ} → TokenRun D off p l q r u → A
      none-off = elim [ ]

  pub in_token-run : {y : TokenStep D.TokenState} {p q : ℕ} {l r : List ℕ} {v : Scalar} → TokenRun D y p l q r v → (a : ℕ) (k : Stack)
      → Runs (token_to y a p) k p l (After (leaf a q v)) k q r
  unfolding scan
  in_token-run token_last a k = record { path = refl }
  in_token-run (token_finished e) a k = record { path = rw e refl }
  in_token-run (token_past e) a k = alike (rw e refl)
  in_token-run (token_on {b = b} w) a k = then (byte (token-steps w a b k)) (in_token-run w a k)

  token-run : {p q : ℕ} {l r : List ℕ} {v : Scalar} → TokenStarts D p l q r v → (k : Stack) → Runs AtValue k p l (After (leaf p q v)) k q r
  token-run (token_starts f a b c e w) k = then (byte (skip-solid f.solid _ _ _ ∙ simp (a, b, c, e))) (in_token-run w _ k)

  -- after `[` and `{`: the first byte of a value is no `]`, that of a key no `}`
  data Begins : List ℕ → Type 0 where
    begins : {b : ℕ} {l : List ℕ} → Solid D b → eqb b (code "]") ≡ false → Begins (b ∷ l)

  value-begins : {n p q : ℕ} {l r : List ℕ} {j : Json} → Value D.lexis n p l q r j → Stopped D r → Begins l
  value-begins (unquoted b) f = go (L.tokens b f)
    where
      go : {p q : ℕ} {l r : List ℕ} {v : Scalar} → TokenStarts D p l q r v → Begins l
      go (token_starts f a b c e w) = begins f.solid f.no_end_array
  value-begins (string t w) f = let g = L.quote_first _ t in begins g.solid g.no_end_array
  value-begins (array w) f = begins (L.solid begin_array) refl
  value-begins (object w) f = begins (L.solid begin_object) refl

  elements_begin : {n p q : ℕ} {l r : List ℕ} {js : Items} → Elements D.lexis n p l q r js → Begins l
  elements_begin (element v t) = value-begins v (elements_stopped t)

  first-element : {l : List ℕ} → Begins l → (a p : ℕ) (k : Stack) → Runs (AtElement a) k p l AtValue (in_array a no_items k) p l
  first-element (begins s f) a p k = alike (simp (s.no_blank, s.no_comment, f))

  first_member : {n p q : ℕ} {l r : List ℕ} {fs : Fields} → Members D.lexis n p l q r fs → (a : ℕ) (k : Stack) → Runs (AtFirstKey a) k p l (AtKey a no_fields) k p l
  first_member (member t c w u v e) a k = alike (let f = L.quote_first _ t in simp (f.solid.no_blank, f.solid.no_comment, f.no_end_object))

  pub opens-array : (p : ℕ) (k : Stack) → depth k < lim → step D lim AtValue k p (code "[") ≡ to (AtElement p) k
  opens-array p k h = skip-solid (L.solid begin_array) _ _ _ ∙ simp (L.no_quote begin_array, lt-ltb _ _ h)

  pub opens-object : (p : ℕ) (k : Stack) → depth k < lim → step D lim AtValue k p (code "{") ≡ to (AtFirstKey p) k
  opens-object p k h = skip-solid (L.solid begin_object) _ _ _ ∙ simp (L.no_quote begin_object, lt-ltb _ _ h)

  mutual
    pub value-run : {n p q : ℕ} {l r : List ℕ} {j : Json} → Value D.lexis n p l q r j → (k : Stack) → depth k + n ≡ lim → Stopped D r → Runs AtValue k p l (After j) k q r
    value-run (unquoted b) k h f = token-run (L.tokens b f) k
    value-run (string t w) k h f = then (byte (skip-solid (L.quote_first _ t).solid _ _ _ ∙ simp t)) (chars-run w (as_value _) [] k)
    value-run (array w) k h f = then (byte (opens-array _ k (omega arith))) (array-run w _ k (omega arith))
    value-run (object w) k h f = then (byte (opens-object _ k (omega arith))) (object-run w _ k (omega arith))

    array-run : {n p q : ℕ} {l r : List ℕ} {js : Items} → ArrayBody D.lexis n p l q r js → (a : ℕ) (k : Stack) → suc (depth k) + n ≡ lim
        → Runs (AtElement a) k p l (After (arr a q js)) k q r
    array-run (no_elements w) a k h = then (blanks_run w at_element k) (byte (skip-solid (L.solid Structural.end_array) _ _ _))
    array-run (some_elements w e) a k h = then (blanks_run w at_element k) (then (first-element (elements_begin e) a _ k) (elements_run e a no_items k h))

    elements_run : {n p q : ℕ} {l r : List ℕ} {js : Items} → Elements D.lexis n p l q r js
        → (a : ℕ) (acc : Items) (k : Stack) → suc (depth k) + n ≡ lim → Runs AtValue (in_array a acc k) p l (After (arr a q (reverse_items acc js))) k q r
    elements_run (element v t) a acc k h = then (value-run v (in_array a acc k) h (elements_stopped t)) (more_elements_run t a acc _ k h)

    more_elements_run : {n p q : ℕ} {l r : List ℕ} {js : Items} → MoreElements D.lexis n p l q r js
        → (a : ℕ) (acc : Items) (j : Json) (k : Stack) → suc (depth k) + n ≡ lim → Runs (After j) (in_array a acc k) p l (After (arr a q (reverse_items acc (item j js)))) k q r
    more_elements_run (end_array w) a acc j k h = then (blanks_run w after _) (byte (skip-solid (L.solid Structural.end_array) _ _ _))
    more_elements_run (next_element w u e) a acc j k h =
        then (blanks_run w after _) (then (byte (skip-solid (L.solid value_separator) _ _ _)) (then (blanks_run u at_value _) (elements_run e a (item j acc) k h)))

    object-run : {n p q : ℕ} {l r : List ℕ} {fs : Fields} → ObjectBody D.lexis n p l q r fs → (a : ℕ) (k : Stack) → suc (depth k) + n ≡ lim
        → Runs (AtFirstKey a) k p l (After (obj a q fs)) k q r
    object-run (no_members w) a k h = then (blanks_run w at_first_key k) (byte (skip-solid (L.solid Structural.end_object) _ _ _))
    object-run (some_members w e) a k h = then (blanks_run w at_first_key k) (then (first_member e a k) (members_run e a no_fields k h))

    members_run : {n p q : ℕ} {l r : List ℕ} {fs : Fields} → Members D.lexis n p l q r fs
        → (a : ℕ) (acc : Fields) (k : Stack) → suc (depth k) + n ≡ lim → Runs (AtKey a acc) k p l (After (obj a q (reverse_fields acc fs))) k q r
    members_run (member t c w u v e) a acc k h =
        then (byte (skip-solid (L.quote_first _ t).solid _ _ _ ∙ simp t)) (then (chars-run c (as_key a acc _) [] k)
        (then (blanks_run w at_colon k) (then (byte (skip-solid (L.solid name_separator) _ _ _))
        (then (blanks_run u at_value _) (then (value-run v (in_object a acc _ _ _ k) h (members-stopped e)) (more-members-run e a acc _ _ _ _ k h))))))

    more-members-run : {n p q : ℕ} {l r : List ℕ} {fs : Fields} → MoreMembers D.lexis n p l q r fs
        → (a : ℕ) (acc : Fields) (s e : ℕ) (cs : List ℕ) (j : Json) (k : Stack) → suc (depth k) + n ≡ lim
        → Runs (After j) (in_object a acc s e cs k) p l (After (obj a q (reverse_fields acc (field s e cs j fs)))) k q r
    more-members-run (end_object w) a acc s e cs j k h = then (blanks_run w after _) (byte (skip-solid (L.solid Structural.end_object) _ _ _))
    more-members-run (next_member w u m) a acc s e cs j k h =
        then (blanks_run w after _) (then (byte (skip-solid (L.solid value_separator) _ _ _)) (then (blanks_run u at_key k) (members_run m a (field s e cs j acc) k h)))

  -- a value as the first element
  pub element-run : {n p q : ℕ} {l r : List ℕ} {j : Json} → Value D.lexis n p l q r j → (a : ℕ) (k : Stack) → suc (depth k) + n ≡ lim → Stopped D r
      → Runs (AtElement a) k p l (After j) (in_array a no_items k) q r
  element-run v a k h f = then (first-element (value-begins v f) a _ k) (value-run v (in_array a no_items k) h f)

  -- at the top: after an object stands another, or the end
  next-object : (v : Json) (acc : Items) (o : ℕ) (m : List ℕ) → D.lexis.several ≡ true
      → Runs (After v) (bottom acc) o (code "{" ∷ m) AtValue (bottom (item v acc)) o (code "{" ∷ m)
  next-object v acc o m t = alike (simp ((L.solid begin_object).no_blank, (L.solid begin_object).no_comment, L.no_quote begin_object, t))

  objects-run : D.lexis.several ≡ true → {p : ℕ} {l : List ℕ} {js : Items} → Objects D.lexis lim p l js
      → (v : Json) (acc : Items) → scan D lim (After v) (bottom acc) p l ≡ whole (reverse_items acc (item v js))
  unfolding scan
  objects-run t (no_more w) v acc = (blanks_run w after (bottom acc)).path
  objects-run t (one_more w x y) v acc =
      (then (blanks_run w after (bottom acc)) (then (next-object v acc _ _ t) (value-run x (bottom (item v acc)) (omega arith) (objects-stopped y)))).path
      ∙ objects-run t y _ (item v acc)

  first-object : (o : ℕ) (m : List ℕ) → Runs AtObject (bottom no_items) o (code "{" ∷ m) AtValue (bottom no_items) o (code "{" ∷ m)
  first-object o m = alike (simp ((L.solid begin_object).no_blank, (L.solid begin_object).no_comment, L.no_quote begin_object))

  text-run : D.lexis.several ≡ true → {p : ℕ} {l : List ℕ} {js : Items} → Objects D.lexis lim p l js → scan D lim AtObject (bottom no_items) p l ≡ whole js
  unfolding scan
  text-run t (no_more w) = (blanks_run w at_object (bottom no_items)).path
  text-run t (one_more w x y) =
      (then (blanks_run w at_object (bottom no_items)) (then (first-object _ _) (value-run x (bottom no_items) (omega arith) (objects-stopped y)))).path ∙ objects-run t y _ no_items

  pub complete : {l : List ℕ} {js : Items} → Text D.lexis lim l js → read D lim l ≡ whole js
  unfolding read
  complete {l} (objects t e) = ap (λ (m : Bool). scan D lim (cond m AtObject AtValue) (bottom no_items) 0 l) t ∙ text-run t e
  complete {l} (one_value t w v e) =
      ap (λ (m : Bool). scan D lim (cond m AtObject AtValue) (bottom no_items) 0 l) t
      ∙ (then (blanks_run w at_value (bottom no_items)) (then (value-run v (bottom no_items) (omega arith) (end-stopped e)) (blanks_run e after (bottom no_items)))).path

-- so a text has one tree
pub unique : (D : Dialect) → TokensComplete D → (lim : ℕ) {l : List ℕ} {js ks : Items} → Text D.lexis lim l js → Text D.lexis lim l ks → js ≡ ks
unique D L lim t u = let e = complete D L lim t in let f = complete D L lim u in cc
