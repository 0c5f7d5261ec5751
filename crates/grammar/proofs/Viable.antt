-- Where the machine stops is the end of the longest start that some valid text has.
-- Every control can be completed to a text that the machine accepts, by soundness a valid one. By completeness no longer start is viable, since the machine would pass the stop.
use Prim.Native.Nat.{ℕ, suc, ◌+◌, ◌≤◌, ◌<◌}
use Prim.Native.Char.{code}
use native.Mathlib.Omega.{arith}
use mathlib.Core.Path.{◌≡◌, refl, sym, ◌∙◌, subst}
use mathlib.Core.List.{List, [], ◌∷◌, ◌++◌, reverse}
use lib.ListN.{length, take, drop, take-append-drop}
use lib.Seq.{length-take-le}
use Rattle.grammar.specs.Tree.{Json, Json.leaf, Json.arr, Json.obj, Items, Items.no_items, Items.item, Fields, Fields.no_fields, Fields.field, Scalar.str}
use Rattle.grammar.specs.Starts.{Viable, Longest}
use Rattle.grammar.specs.Serving.Machine.{Dialect, Stack, Stack.bottom, Stack.in_array, Stack.in_object, StringRole, StringRole.as_value, StringRole.as_key, Out, Out.whole, Next}
use Rattle.grammar.specs.Serving.Machine.{Next.to, Next.stuck, Next.over, Control, reverse_items, reverse_fields, step, scan, start, read}
use Rattle.grammar.specs.Serving.Machine.Control.{AtObject, AtValue, AtElement, After, AtFirstKey, AtKey, AtColon, InString, InChar, InToken, InComment}
use Rattle.grammar.proofs.TokenRuns.{First, Stopped, TokensSound, TokensComplete, TokensCompletable, Structural.end_array, Structural.end_object}
use Rattle.grammar.proofs.TokenRuns.{Structural.name_separator}
use Rattle.grammar.proofs.Steps.{Stops, goes_on, scan_cons, range, stop-stays}
use Rattle.grammar.proofs.Sound.{sound}
use Rattle.grammar.proofs.Complete.{Runs, byte, skip-solid, in_char-run, in_token-run, complete}

module _ (D : Dialect) (L : TokensComplete D) (H : TokensCompletable D) where
  -- bytes that close what is open on a stack, and that complete a text from a control
  abbrev closing : Stack → List ℕ
  closing (bottom js) = []
  closing (in_array a js k) = code "]" ∷ closing k
  closing (in_object a fs s e cs k) = code "}" ∷ closing k

  abbrev after_key : Stack → List ℕ
  after_key k = code ":" ∷ H.quote_byte ∷ H.quote_byte ∷ code "}" ∷ closing k

  abbrev after_string : StringRole → Stack → List ℕ
  after_string (as_value a) k = closing k
  after_string (as_key a fs o) k = after_key k

  abbrev pub completion : Control D → Stack → List ℕ
  completion AtObject k = []
  completion AtValue k = H.quote_byte ∷ H.quote_byte ∷ closing k
  completion (AtElement a) k = code "]" ∷ closing k
  completion (After v) k = closing k
  completion (AtFirstKey a) k = code "}" ∷ closing k
  completion (AtKey a fs) k = H.quote_byte ∷ H.quote_byte ∷ after_key k
  completion (AtColon a fs s e cs) k = after_key k
  completion (InString d acc) k = H.quote_byte ∷ after_string d k
  completion (InChar d acc s) k = H.char_rest s ++ (H.quote_byte ∷ after_string d k)
  completion (InToken a s) k = H.token_rest s ++ closing k
  completion (InComment c) k = code "\n" ∷ completion c k

  quote_first : First D H.quote_byte
  quote_first = L.quote_first H.quote_byte H.is_quote

  closing-stopped : (k : Stack) → Stopped D (closing k)
  closing-stopped (bottom js) = tt
  closing-stopped (in_array a js k) = L.stops_structural end_array
  closing-stopped (in_object a fs s e cs k) = L.stops_structural end_object

  module _ (lim : ℕ) where
    pub record Accepted (c : Control D) (k : Stack) (p : ℕ) (l : List ℕ) : Type 0 where
      pub items : Items
      pub path : scan D lim c k p l ≡ whole items

    so : {c d : Control D} {k k' : Stack} {p q : ℕ} {l r : List ℕ} → Runs D L lim c k p l d k' q r → Accepted d k' q r → Accepted c k p l
    so x y = record { items = y.items; path = x.path ∙ y.path }

    after-completes : (k : Stack) (v : Json) (p : ℕ) → Accepted (After v) k p (closing k)
    unfolding scan
    after-completes (bottom js) v p = record { items = reverse_items js (item v no_items); path = refl }
    after-completes (in_array a js k) v p =
        so (byte D L lim (skip-solid D L lim (L.solid end_array) _ _ _)) (after-completes k (arr a (suc p) (reverse_items js (item v no_items))) (suc p))
    after-completes (in_object a fs s e cs k) v p =
        so (byte D L lim (skip-solid D L lim (L.solid end_object) _ _ _)) (after-completes k (obj a (suc p) (reverse_fields fs (field s e cs v no_fields))) (suc p))

    value-string : (k : Stack) (a p : ℕ) (acc : List ℕ) → Accepted (InString (as_value a) acc) k p (H.quote_byte ∷ closing k)
    value-string k a p acc = so (byte D L lim (simp H.is_quote)) (after-completes k (leaf a (suc p) (str (reverse acc))) (suc p))

    value-completes : (k : Stack) (p : ℕ) → Accepted AtValue k p (H.quote_byte ∷ H.quote_byte ∷ closing k)
    value-completes k p = so (byte D L lim (skip-solid D L lim quote_first.solid _ _ _ ∙ simp H.is_quote)) (value-string k p (suc p) [])

    colon-completes : (k : Stack) (a : ℕ) (fs : Fields) (s e : ℕ) (cs : List ℕ) (p : ℕ) → Accepted (AtColon a fs s e cs) k p (after_key k)
    colon-completes k a fs s e cs p = so (byte D L lim (skip-solid D L lim (L.solid name_separator) _ _ _)) (value-completes (in_object a fs s e cs k) (suc p))

    string-completes : (d : StringRole) (k : Stack) (acc : List ℕ) (p : ℕ) → Accepted (InString d acc) k p (H.quote_byte ∷ after_string d k)
    string-completes (as_value a) k acc p = value-string k a p acc
    string-completes (as_key a fs o) k acc p = so (byte D L lim (simp H.is_quote)) (colon-completes k a fs o (suc p) (reverse acc) (suc p))

    objects-complete : (k : Stack) (p : ℕ) → Accepted AtObject k p []
    unfolding scan
    objects-complete (bottom js) p = record { items = reverse_items js no_items; path = refl }
    objects-complete (in_array a js k) p = record { items = no_items; path = refl }
    objects-complete (in_object a fs s e cs k) p = record { items = no_items; path = refl }

    pub completes : (c : Control D) (k : Stack) (p : ℕ) → Accepted c k p (completion c k)
    completes AtObject k p = objects-complete k p
    completes AtValue k p = value-completes k p
    completes (AtElement a) k p = so (byte D L lim (skip-solid D L lim (L.solid end_array) _ _ _)) (after-completes k (arr a (suc p) no_items) (suc p))
    completes (After v) k p = after-completes k v p
    completes (AtFirstKey a) k p = so (byte D L lim (skip-solid D L lim (L.solid end_object) _ _ _)) (after-completes k (obj a (suc p) no_fields) (suc p))
    completes (AtKey a fs) k p = so (byte D L lim (skip-solid D L lim quote_first.solid _ _ _ ∙ simp H.is_quote)) (string-completes (as_key a fs p) k [] (suc p))
    completes (AtColon a fs s e cs) k p = colon-completes k a fs s e cs p
    completes (InString d acc) k p = string-completes d k acc p
    completes (InChar d acc s) k p =
        let z = H.char_ends s p (H.quote_byte ∷ after_string d k) in so (in_char-run D L lim z.run d acc k) (string-completes d k (z.code_point ∷ acc) z.place)
    completes (InToken a s) k p =
        let z = H.token_ends s p (closing k) (closing-stopped k) in so (in_token-run D L lim z.run a k) (after-completes k (leaf a z.place z.scalar) z.place)
    completes (InComment c) k p = so (byte D L lim refl) (completes c k (suc p))

    -- where the machine has not stopped, the bytes can be completed
    live_step : (a x : List ℕ) (p e : ℕ) → ((c : Control D) (k : Stack) → Stops (scan D lim c k (suc p) (a ++ x)) e → (y : List ℕ) × Accepted c k (suc p) (a ++ y))
        → p < e → (n : Next D) → Stops (goes_on D lim n p (a ++ x)) e → (y : List ℕ) × (z : Items) × (goes_on D lim n p (a ++ y) ≡ whole z)
    live_step a x p e ih h (to c k) s = let z = ih c k s in (z.0, z.1.items, z.1.path)
    live_step a x p e ih h stuck s = absurd (omega arith)
    live_step a x p e ih h over s = absurd (omega arith)

    live : (a x : List ℕ) (c : Control D) (k : Stack) (p e : ℕ) → p + length a ≡ e → Stops (scan D lim c k p (a ++ x)) e → (y : List ℕ) × Accepted c k p (a ++ y)
    live [] x c k p e h s = (completion c k, completes c k p)
    live (b ∷ a) x c k p e h s =
        let t = subst (λ (o : Out). Stops o e) (scan_cons D lim c k p b (a ++ x)) s in
        let z = live_step a x p e (λ c k. live a x c k (suc p) e (omega arith)) (omega arith) (step D lim c k p b) t in
        (z.0, record { items = z.1; path = scan_cons D lim c k p b (a ++ z.0) ∙ z.2 })

    -- the place of a stop
    pub longest : TokensSound D → (l : List ℕ) (e : ℕ) → Stops (read D lim l) e → Longest D.lexis lim l e
    unfolding read
    longest S l e s =
        let i : e ≤ length l = omega (arith, range D lim l (start D) (bottom no_items) 0 e s) in
        let z = live (take e l) (drop e l) (start D) (bottom no_items) 0 e (omega (arith, length-take-le e l i)) (rw (take-append-drop e l) s) in
        record { inside = i; viable = (z.0, (z.1.items, sound D S lim z.1.items (take e l ++ z.0) z.1.path)); longest = λ n h g v. never n h g v }
      where
        never : (n : ℕ) → e < n → n ≤ length l → Viable D.lexis lim (take n l) → ⊥
        never n h g v =
            let d = stop-stays D lim (take n l) (drop n l) v.0 (start D) (bottom no_items) 0 e (omega (arith, length-take-le n l g)) (rw (take-append-drop n l) s) in
            subst (λ (o : Out). Stops o e) (rw (take-append-drop n l) at (sym d) ∙ complete D L lim v.1.1) s
