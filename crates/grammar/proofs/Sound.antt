-- Each run of the machine to a tree is a derivation of the grammar with that tree.
-- One induction on the bytes: where the machine comes from a control to the tree x, the bytes are what `Rest` wants there. A step goes by the tests that it makes.
use Prim.Native.Nat.{ℕ, zero, suc, ◌+◌}
use Prim.Native.Char.{code}
use native.Mathlib.Omega.{arith}
use mathlib.Core.Path.{◌≡◌, refl, sym, ◌∙◌}
use mathlib.Core.Bool.{Bool, true, false, cond}
use mathlib.Core.List.{List, [], ◌∷◌, reverse, reverse_aux}
use mathlib.Core.Option.{Option, some}
use lib.Dec.{ltb, eqb}
use borrow.Author.Tests.{ltb-true, eqb-true}
use Rattle.grammar.specs.Tree.{Scalar, Scalar.str, Json, Json.leaf, Json.arr, Json.obj, Items, Items.no_items, Items.item, Fields, Fields.no_fields, Fields.field}
use Rattle.grammar.specs.Grammar.{Blanks, Blanks.none, Blanks.blank, Blanks.comment, Chars, Chars.close, Chars.char, Value, Value.unquoted, Value.string, Value.array}
use Rattle.grammar.specs.Grammar.{Value.object, Members, Members.member, Objects, Objects.no_more, Objects.one_more, Text, Text.objects, Text.one_value, Comment.text_end}
use Rattle.grammar.specs.Grammar.{Comment.line_end, Comment.free, ArrayBody.no_elements, ArrayBody.some_elements, Elements.element, MoreElements.end_array}
use Rattle.grammar.specs.Grammar.{ObjectBody.no_members, ObjectBody.some_members, MoreMembers.end_object}
use Rattle.grammar.specs.Serving.Machine.{CharStep, CharStep.stay, CharStep.bad, TokenStep, TokenStep.on, TokenStep.last, TokenStep.past, TokenStep.off, Dialect, Stack}
use Rattle.grammar.specs.Serving.Machine.{Stack.bottom, Stack.in_array, Stack.in_object, StringRole, StringRole.as_value, StringRole.as_key, Next, Next.to, Next.stuck, Next.over}
use Rattle.grammar.specs.Serving.Machine.{Control, reverse_items, reverse_fields, depth, opens, begin_token, begin_value, begin_key, skip, follow, after_value, end_string, in_char}
use Rattle.grammar.specs.Serving.Machine.{in_token, step, end_value, end_objects, end_token, finish, scan, read, Out.whole, Out.fault}
use Rattle.grammar.specs.Serving.Machine.Control.{AtObject, AtValue, AtElement, After, AtFirstKey, AtKey, AtColon, InString, InChar, InToken, InComment}
use Rattle.grammar.proofs.Booleans.{clash, by}
use Rattle.grammar.proofs.TokenRuns.{TokenRun, TokenRun.token_last, TokenRun.token_finished, TokenRun.token_past, TokenRun.token_on, TokensSound, CharRun.char_whole}
use Rattle.grammar.proofs.TokenRuns.{CharRun.char_on}
use Rattle.grammar.proofs.Steps.{goes_on, scan_cons}
use Rattle.grammar.proofs.Rest.{At, found, at_map, Led, Led.led, Colon, Colon.colon, InChars, InChars.in_chars, AtComment, AtEnd, RestAfter, RestObjects, RestObject}
use Rattle.grammar.proofs.Rest.{RestString, Rest, level, level_string, lead, lead-array, lead-more_elements, lead-object, lead-more-members, lead-colon, lead-objects}
use Rattle.grammar.proofs.Rest.{comma_element, comma_member, colon-value}

module _ (D : Dialect) (S : TokensSound D) (lim : ℕ) (x : Items) where
  -- a step from which the machine comes to the tree
  abbrev Goes : Next D → ℕ → List ℕ → Type 0
  Goes (to c k) p l = scan D lim c k (suc p) l ≡ whole x
  Goes stuck p l = ⊥
  Goes over p l = ⊥

  goes : (c : Control D) (k : Stack) (p b : ℕ) (l : List ℕ) → scan D lim c k p (b ∷ l) ≡ whole x → Goes (step D lim c k p b) p l
  goes c k p b l e = go (step D lim c k p b) (sym (scan_cons D lim c k p b l) ∙ e)
    where
      go : (n : Next D) → goes_on D lim n p l ≡ whole x → Goes n p l
      go (to c k) e = e
      go stuck e = let z : ◌≡◌ {A = ℕ} 0 1 = cc in omega arith
      go over e = let z : ◌≡◌ {A = ℕ} 0 1 = cc in omega arith

  abbrev Sound : List ℕ → Type 0
  Sound l = (c : Control D) (k : Stack) (n p : ℕ) → level D c k + n ≡ lim → scan D lim c k p l ≡ whole x → Rest D x c n k p l

  inner : (m n : ℕ) → m + suc n ≡ lim → suc m + n ≡ lim
  inner m n h = omega arith

  outer : (m n : ℕ) → suc m + n ≡ lim → m + suc n ≡ lim
  outer m n h = omega arith

  module _ (l : List ℕ) (ih : Sound l) (p b : ℕ) where
    -- a bracket opens a level
    opening : {R : Type 0} (c : Control D) (n : ℕ) (k : Stack) → depth k + n ≡ lim
        → ((m : ℕ) → n ≡ suc m → suc (depth k) + m ≡ lim → scan D lim c k (suc p) l ≡ whole x → R) → Goes (opens D lim c k) p l → R
    opening {R} c zero k h f = by (λ y. Goes y p l → R) (ltb (depth k) lim) (λ t g. absurd (omega (arith, ltb-true (depth k) lim t))) (λ t g. absurd g)
    opening {R} c (suc n) k h f = by (λ y. Goes y p l → R) (ltb (depth k) lim) (λ t g. f n refl (inner (depth k) n h) g) (λ t g. absurd g)

    -- a blank or a comment is put in front of the rest
    skipping : {R : Type 0} (c : Control D) (n : ℕ) (k : Stack) (y : Next D) → level D c k + n ≡ lim
        → ((o : ℕ) (m : List ℕ) → Blanks D.lexis p (b ∷ l) o m → Rest D x c n k o m → R) → (Goes y p l → R) → Goes (skip D c k b y) p l → R
    skipping {R} c n k y h front f =
        by (λ y. Goes y p l → R) (D.lexis.blank b) (λ t g. front (suc p) l (blank t none) (ih c k n (suc p) h g))
        (λ _. by (λ y. Goes y p l → R) (D.lexis.comment b)
        (λ t g. let z = ih (InComment c) k n (suc p) h g in front z.place z.left (comment t z.token none) z.rest) (λ _. f))

    -- where a value begins
    from-value : (n : ℕ) (k : Stack) → depth k + n ≡ lim → Goes (begin_value D lim k p b) p l → At (Value D.lexis n) p (b ∷ l) (RestAfter D x n k)
    from-value n k h =
        let P : Next D → Type 0 = λ y. Goes y p l → At (Value D.lexis n) p (b ∷ l) (RestAfter D x n k) in
        by P (D.lexis.quote b) (λ t g. let z = ih (InString (as_value p) []) k n (suc p) h g in found _ (string t z.token) z.rest)
        (λ _. by P (eqb b (code "["))
        (λ t. opening (AtElement p) n k h (λ m e h g. let z = ih (AtElement p) k m (suc p) h g in rw (eqb-true b (code "[") t, e) (found _ (array z.token) z.rest)))
        (λ _. by P (eqb b (code "{"))
        (λ t. opening (AtFirstKey p) n k h (λ m e h g. let z = ih (AtFirstKey p) k m (suc p) h g in rw (eqb-true b (code "{") t, e) (found _ (object z.token) z.rest)))
        (λ _. go (D.token_start b) refl)))
      where
        go : (y : Option D.TokenState) → D.token_start b ≡ y → Goes (begin_token D p y k) p l → At (Value D.lexis n) p (b ∷ l) (RestAfter D x n k)
        go (some s) e g = let z = ih (InToken p s) k n (suc p) h g in found _ (unquoted (S.tokens e z.token)) z.rest
        go Option.none e g = absurd g

    -- one more object at the top
    from-object : (n : ℕ) (js : Items) → 0 + n ≡ lim → D.lexis.several ≡ true → eqb b (code "{") ≡ true → Goes (opens D lim (AtFirstKey p) (bottom js)) p l
        → AtEnd D x n js p (b ∷ l)
    from-object n js h u t = opening (AtFirstKey p) n (bottom js) h (λ m e h g. rw (eqb-true b (code "{") t, e) (go m h g))
      where
        go : (m : ℕ) → suc 0 + m ≡ lim → scan D lim (AtFirstKey p) (bottom js) (suc p) l ≡ whole x → AtEnd D x (suc m) js p (code "{" ∷ l)
        go m h g =
            let z = ih (AtFirstKey p) (bottom js) m (suc p) h g in
            record {
              what = item (obj p z.place z.what) z.rest.what;
              rest = one_more none (object z.token) z.rest.rest;
              alone = λ f. clash u f;
              same = z.rest.same;
            }

    -- after a value
    from-follow : (n : ℕ) (k : Stack) (v : Json) → depth k + n ≡ lim → Goes (follow D lim v k p b) p l → RestAfter D x n k v p (b ∷ l)
    from-follow n (bottom js) v h =
        let P : Next D → Type 0 = λ y. Goes y p l → AtEnd D x n (item v js) p (b ∷ l) in
        by P D.lexis.several (λ u. by P (eqb b (code "{")) (λ t. from-object n (item v js) h u t) (λ _ g. absurd g)) (λ _ g. absurd g)
    from-follow n (in_array a js k) v h =
        let P : Next D → Type 0 = λ y. Goes y p l → RestAfter D x n (in_array a js k) v p (b ∷ l) in
        by P (eqb b (code ","))
        (λ t g. let z = ih AtValue (in_array a (item v js) k) n (suc p) h g in rw (eqb-true b (code ",") t) (found _ (comma_element z.token z.rest.token) z.rest.rest))
        (λ _. by P (eqb b (code "]"))
        (λ t g. rw (eqb-true b (code "]") t) (found _ (end_array none) (ih (After (arr a (suc p) (reverse_items js (item v no_items)))) k (suc n) (suc p) (outer (depth k) n h) g)))
        (λ _ g. absurd g))
    from-follow n (in_object a fs s e cs k) v h =
        let P : Next D → Type 0 = λ y. Goes y p l → RestAfter D x n (in_object a fs s e cs k) v p (b ∷ l) in
        by P (eqb b (code ",")) (λ t g. rw (eqb-true b (code ",") t) (at_map (λ q r y w. comma_member w) (ih (AtKey a (field s e cs v fs)) k n (suc p) h g)))
        (λ _. by P (eqb b (code "}"))
        (λ t g. rw (eqb-true b (code "}") t) (found _ (end_object none)
        (ih (After (obj a (suc p) (reverse_fields fs (field s e cs v no_fields)))) k (suc n) (suc p) (outer (depth k) n h) g)))
        (λ _ g. absurd g))

    lead-end : {n : ℕ} {js : Items} {o : ℕ} {m : List ℕ} → Blanks D.lexis p (b ∷ l) o m → AtEnd D x n js o m → AtEnd D x n js p (b ∷ l)
    lead-end w z = record { what = z.what; rest = lead-objects w z.rest; alone = z.alone; same = z.same }

    lead_after : (n : ℕ) (k : Stack) (v : Json) {o : ℕ} {m : List ℕ} → Blanks D.lexis p (b ∷ l) o m → RestAfter D x n k v o m → RestAfter D x n k v p (b ∷ l)
    lead_after n (bottom js) v w z = lead-end w z
    lead_after n (in_array a js k) v w z = at_map (λ q r y t. lead-more_elements w t) z
    lead_after n (in_object a fs s e cs k) v w z = at_map (λ q r y t. lead-more-members w t) z

    from-after : (n : ℕ) (k : Stack) (v : Json) → depth k + n ≡ lim → Goes (after_value D lim v k p b) p l → RestAfter D x n k v p (b ∷ l)
    from-after n k v h = skipping (After v) n k _ h (λ o m w z. lead_after n k v w z) (from-follow n k v h)

    -- where a key begins
    from_key : (n a : ℕ) (fs : Fields) (k : Stack) → suc (depth k) + n ≡ lim → Goes (begin_key D a fs k p b) p l → At (Members D.lexis n) p (b ∷ l) (RestObject D x n k a fs)
    from_key n a fs k h =
        by (λ y. Goes y p l → At (Members D.lexis n) p (b ∷ l) (RestObject D x n k a fs)) (D.lexis.quote b)
        (λ t g. let z = ih (InString (as_key a fs p) []) k n (suc p) h g in found _ (key-colon t z.token z.rest.token) z.rest.rest) (λ _ g. absurd g)
      where
        key-colon : {e q : ℕ} {m r cs : List ℕ} {gs : Fields} → D.lexis.quote b ≡ true → Chars D.lexis (suc p) l e m cs → Colon D.lexis n p e cs e m q r gs
            → Members D.lexis n p (b ∷ l) q r gs
        key-colon t c (colon w u v r) = member t c w u v r

    -- in a string
    from-char : (y : CharStep D.CharState) (n : ℕ) (k : Stack) (d : StringRole) (acc : List ℕ) → level_string d k + n ≡ lim
        → Goes (in_char D y d acc k) p l → At (InChars D y) (suc p) l (λ cs q r. RestString D x d n k (reverse_aux acc cs) q r)
    from-char (stay s) n k d acc h g = ih (InChar d acc s) k n (suc p) h g
    from-char (CharStep.char c) n k d acc h g = let z = ih (InString d (c ∷ acc)) k n (suc p) h g in found _ (in_chars char_whole z.token) z.rest
    from-char bad n k d acc h g = absurd g

    from-quote : (d : StringRole) (n : ℕ) (k : Stack) (cs : List ℕ) → level_string d k + n ≡ lim → scan D lim (end_string D d (suc p) cs) k (suc p) l ≡ whole x
        → RestString D x d n k cs (suc p) l
    from-quote (as_value a) n k cs h g = ih (After (leaf a (suc p) (str cs))) k n (suc p) h g
    from-quote (as_key a fs o) n k cs h g = ih (AtColon a fs o (suc p) cs) k n (suc p) h g

    char-first : {q : ℕ} {r cs : List ℕ} → D.lexis.quote b ≡ false → InChars D (D.char_start b) (suc p) l q r cs → Chars D.lexis p (b ∷ l) q r cs
    char-first t (in_chars w v) = char (S.chars t w) v

    char_next_lem : {s : D.CharState} {q : ℕ} {r cs : List ℕ} → InChars D (D.char_step s b) (suc p) l q r cs → InChars D (stay s) p (b ∷ l) q r cs
    char_next_lem (in_chars w v) = in_chars (char_on w) v

    -- in a word or a number
    from-token : (n : ℕ) (k : Stack) (a : ℕ) (s : D.TokenState) → depth k + n ≡ lim
        → Goes (in_token D (D.token_step s b) lim a k p b) p l → At (TokenRun D (on s)) p (b ∷ l) (λ v q r. RestAfter D x n k (leaf a q v) q r)
    from-token n k a s h = go (D.token_step s b) refl
      where
        last-now : {v : Scalar} → D.token_step s b ≡ last v → TokenRun D (on s) p (b ∷ l) (suc p) l v
        last-now {v} e = let w : TokenRun D (D.token_step s b) (suc p) l (suc p) l v = rw e token_last in token_on w

        go : (y : TokenStep D.TokenState) → D.token_step s b ≡ y → Goes (in_token D y lim a k p b) p l
            → At (TokenRun D (on s)) p (b ∷ l) (λ v q r. RestAfter D x n k (leaf a q v) q r)
        go (on t) e g = at_map (λ q r y w. token_on (rw e w)) (ih (InToken a t) k n (suc p) h g)
        go (last v) e g = found _ (last-now e) (ih (After (leaf a (suc p) v)) k n (suc p) h g)
        go (past v) e g = found _ (token_past e) (from-after n k (leaf a p v) h g)
        go off e g = absurd g

    -- at the other controls
    from-objects : (n : ℕ) (k : Stack) → depth k + n ≡ lim → D.lexis.several ≡ true → Goes (step D lim AtObject k p b) p l → RestObjects D x n k p (b ∷ l)
    from-objects n (bottom js) h u =
        skipping AtObject n (bottom js) _ h (λ o m w z. lead-end w (z u))
        (by (λ y. Goes y p l → AtEnd D x n js p (b ∷ l)) (eqb b (code "{")) (λ t. from-object n js h u t) (λ _ g. absurd g))
    from-objects n (in_array a js k) h u = λ g. tt
    from-objects n (in_object a fs s e cs k) h u = λ g. tt

    from-element : (n a : ℕ) (k : Stack) → suc (depth k) + n ≡ lim → Goes (step D lim (AtElement a) k p b) p l → Rest D x (AtElement a) n k p (b ∷ l)
    from-element n a k h =
        skipping (AtElement a) n k _ h (λ o m w z. at_map (λ q r y t. lead-array w t) z)
        (by (λ y. Goes y p l → Rest D x (AtElement a) n k p (b ∷ l)) (eqb b (code "]"))
        (λ t g. rw (eqb-true b (code "]") t) (found _ (no_elements none) (ih (After (arr a (suc p) no_items)) k (suc n) (suc p) (outer (depth k) n h) g)))
        (λ _ g. let z = from-value n (in_array a no_items k) h g in found _ (some_elements none (element z.token z.rest.token)) z.rest.rest))

    from-first-key : (n a : ℕ) (k : Stack) → suc (depth k) + n ≡ lim → Goes (step D lim (AtFirstKey a) k p b) p l → Rest D x (AtFirstKey a) n k p (b ∷ l)
    from-first-key n a k h =
        skipping (AtFirstKey a) n k _ h (λ o m w z. at_map (λ q r y t. lead-object w t) z)
        (by (λ y. Goes y p l → Rest D x (AtFirstKey a) n k p (b ∷ l)) (eqb b (code "}"))
        (λ t g. rw (eqb-true b (code "}") t) (found _ (no_members none) (ih (After (obj a (suc p) no_fields)) k (suc n) (suc p) (outer (depth k) n h) g)))
        (λ _ g. at_map (λ q r y t. some_members none t) (from_key n a no_fields k h g)))

    from-colon : (n a : ℕ) (fs : Fields) (s e : ℕ) (cs : List ℕ) (k : Stack) → suc (depth k) + n ≡ lim
        → Goes (step D lim (AtColon a fs s e cs) k p b) p l → Rest D x (AtColon a fs s e cs) n k p (b ∷ l)
    from-colon n a fs s e cs k h =
        skipping (AtColon a fs s e cs) n k _ h (λ o m w z. at_map (λ q r y t. lead-colon w t) z)
        (by (λ y. Goes y p l → Rest D x (AtColon a fs s e cs) n k p (b ∷ l)) (eqb b (code ":"))
        (λ t g. let z = ih AtValue (in_object a fs s e cs k) n (suc p) h g in rw (eqb-true b (code ":") t) (found _ (colon-value z.token z.rest.token) z.rest.rest))
        (λ _ g. absurd g))

    from_step : (c : Control D) (k : Stack) (n : ℕ) → level D c k + n ≡ lim → Goes (step D lim c k p b) p l → Rest D x c n k p (b ∷ l)
    from_step AtObject k n h g = λ u. from-objects n k h u g
    from_step AtValue k n h g = skipping AtValue n k _ h (λ o m w z. at_map (λ q r y t. lead w t) z) (λ g. at_map (λ q r y t. led none t) (from-value n k h g)) g
    from_step (AtElement a) k n h g = from-element n a k h g
    from_step (After v) k n h g = from-after n k v h g
    from_step (AtFirstKey a) k n h g = from-first-key n a k h g
    from_step (AtKey a fs) k n h g = skipping (AtKey a fs) n k _ h (λ o m w z. at_map (λ q r y t. lead w t) z) (λ g. at_map (λ q r y t. led none t) (from_key n a fs k h g)) g
    from_step (AtColon a fs s e cs) k n h g = from-colon n a fs s e cs k h g
    from_step (InString d acc) k n h g =
        by (λ y. Goes y p l → Rest D x (InString d acc) n k p (b ∷ l)) (D.lexis.quote b) (λ t g. found _ (close t) (from-quote d n k (reverse acc) h g))
        (λ t g. at_map (λ q r y w. char-first t w) (from-char (D.char_start b) n k d acc h g)) g
    from_step (InChar d acc s) k n h g = at_map (λ q r y w. char_next_lem w) (from-char (D.char_step s b) n k d acc h g)
    from_step (InToken a s) k n h g = from-token n k a s h g
    from_step (InComment c) k n h g =
        by (λ y. Goes y p l → AtComment D p (b ∷ l) (Rest D x c n k)) (eqb b (code "\n"))
        (λ t g. rw (eqb-true b (code "\n") t) (record { place = suc p; left = l; token = line_end; rest = ih c k n (suc p) h g }))
        (λ t g. let z = ih (InComment c) k n (suc p) h g in record { place = z.place; left = z.left; token = free t z.token; rest = z.rest }) g

  -- at the end of the text
  not-whole : {p : ℕ} {A : Type 0} → fault p ≡ whole x → A
  not-whole e = let z : ◌≡◌ {A = ℕ} 0 1 = cc in absurd (omega arith)

  end_value_lem : (v : Json) (k : Stack) (n p : ℕ) → end_value D v k p ≡ whole x → RestAfter D x n k v p []
  end_value_lem v (bottom js) n p e = record { what = no_items; rest = no_more none; alone = λ _. refl; same = cc }
  end_value_lem v (in_array a js k) n p e = not-whole e
  end_value_lem v (in_object a fs s f cs k) n p e = not-whole e

  end_objects_lem : (k : Stack) (n p : ℕ) → end_objects D k p ≡ whole x → RestObjects D x n k p []
  end_objects_lem (bottom js) n p e = record { what = no_items; rest = no_more none; alone = λ _. refl; same = cc }
  end_objects_lem (in_array a js k) n p e = tt
  end_objects_lem (in_object a fs s f cs k) n p e = tt

  from-finish : (c : Control D) (k : Stack) (n p : ℕ) → finish D c k p ≡ whole x → Rest D x c n k p []
  from-finish AtObject k n p e = λ u. end_objects_lem k n p e
  from-finish AtValue k n p e = not-whole e
  from-finish (AtElement a) k n p e = not-whole e
  from-finish (After v) k n p e = end_value_lem v k n p e
  from-finish (AtFirstKey a) k n p e = not-whole e
  from-finish (AtKey a fs) k n p e = not-whole e
  from-finish (AtColon a fs s f cs) k n p e = not-whole e
  from-finish (InString d acc) k n p e = not-whole e
  from-finish (InChar d acc s) k n p e = not-whole e
  from-finish (InToken a s) k n p e = go (D.token_end s) refl e
    where
      go : (y : Option Scalar) → D.token_end s ≡ y → end_token D y a k p ≡ whole x → At (TokenRun D (on s)) p [] (λ v q r. RestAfter D x n k (leaf a q v) q r)
      go (some v) t e = found _ (token_finished t) (end_value_lem (leaf a p v) k n p e)
      go Option.none t e = not-whole e
  from-finish (InComment c) k n p e = record { place = p; left = []; token = text_end; rest = from-finish c k n p e }

  sound-from : (l : List ℕ) → Sound l
  unfolding scan
  sound-from [] c k n p h e = from-finish c k n p e
  sound-from (b ∷ l) c k n p h e = from_step l (sound-from l) p b c k n h (goes c k p b l e)

  pub sound : (l : List ℕ) → read D lim l ≡ whole x → Text D.lexis lim l x
  unfolding read
  sound l = go D.lexis.several refl
    where
      only_blanks : {n p : ℕ} {l : List ℕ} {js : Items} → Objects D.lexis n p l js → js ≡ no_items → (e : ℕ) × Blanks D.lexis p l e []
      only_blanks (no_more w) h = (_, w)
      only_blanks (one_more a b c) h = let z : ◌≡◌ {A = ℕ} 0 1 = cc in absurd (omega arith)

      just_one : {q : ℕ} {r : List ℕ} {j : Json} {js : Items} → D.lexis.several ≡ false
          → Led D.lexis (Value D.lexis lim) 0 l q r j → (e : ℕ) × Blanks D.lexis q r e [] → js ≡ no_items → item j js ≡ x → Text D.lexis lim l x
      just_one u (led w v) t f e = rw (← e, f) (one_value u w v t.1)

      go : (m : Bool) → D.lexis.several ≡ m → scan D lim (cond m AtObject AtValue) (bottom no_items) 0 l ≡ whole x → Text D.lexis lim l x
      go true u e = let z = sound-from l AtObject (bottom no_items) lim 0 (omega arith) e u in rw (← z.same) (objects u z.rest)
      go false u e =
          let z = sound-from l AtValue (bottom no_items) lim 0 (omega arith) e in
          let y = z.rest in
          just_one u z.token (only_blanks y.rest (y.alone u)) (y.alone u) y.same
