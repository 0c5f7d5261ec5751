-- What the grammar wants of the bytes that are left, at each control and stack of the machine: the type `Rest`, which soundness proves.
-- It follows the stack outwards: the rest of the innermost container, then of the one around it. Blanks may be put in front of each rest.
use Prim.Native.Nat.{ℕ, suc}
use Prim.Native.Char.{code}
use mathlib.Core.Path.{◌≡◌}
use mathlib.Core.Bool.{true, false}
use mathlib.Core.List.{List, ◌∷◌, reverse_aux}
use Rattle.grammar.specs.Tree.{Json, Json.leaf, Json.arr, Json.obj, Items, Items.no_items, Items.item, Fields, Fields.no_fields, Fields.field, Scalar.str}
use Rattle.grammar.specs.Lexis.{Lexis}
use Rattle.grammar.specs.Grammar.{Comment, Blanks, Blanks.none, Blanks.blank, Blanks.comment, Chars, Value, ArrayBody, ArrayBody.no_elements, ArrayBody.some_elements}
use Rattle.grammar.specs.Grammar.{MoreElements, MoreElements.end_array, MoreElements.next_element, ObjectBody, ObjectBody.no_members, ObjectBody.some_members, Members}
use Rattle.grammar.specs.Grammar.{MoreMembers, MoreMembers.end_object, MoreMembers.next_member, Objects, Objects.no_more, Objects.one_more, Elements.element}
use Rattle.grammar.specs.Serving.Machine.{CharStep, CharStep.stay, Dialect, Stack, Stack.bottom, Stack.in_array, Stack.in_object, StringRole, StringRole.as_value}
use Rattle.grammar.specs.Serving.Machine.{StringRole.as_key, reverse_items, reverse_fields, depth, Control, TokenStep.on}
use Rattle.grammar.specs.Serving.Machine.Control.{AtObject, AtValue, AtElement, After, AtFirstKey, AtKey, AtColon, InString, InChar, InToken, InComment}
use Rattle.grammar.proofs.TokenRuns.{CharRun, TokenRun}

-- an F stands at p, and K holds of what comes after it
pub record At {X : Type 0} (F : ℕ → List ℕ → ℕ → List ℕ → X → Type 0) (p : ℕ) (l : List ℕ) (K : X → ℕ → List ℕ → Type 0) : Type 0 where
  pub what : X
  pub place : ℕ
  pub left : List ℕ
  pub token : F p l place left what
  pub rest : K what place left

pub found : {X : Type 0} (F : ℕ → List ℕ → ℕ → List ℕ → X → Type 0) {p q : ℕ} {l r : List ℕ} {y : X} {K : X → ℕ → List ℕ → Type 0} → F p l q r y → K y q r → At F p l K
found F {q = q} {r = r} {y = y} t k = record { what = y; place = q; left = r; token = t; rest = k }

pub at_map : {X : Type 0} {F F' : ℕ → List ℕ → ℕ → List ℕ → X → Type 0} {p p' : ℕ} {l l' : List ℕ} {K : X → ℕ → List ℕ → Type 0}
    → ((q : ℕ) (r : List ℕ) (y : X) → F p l q r y → F' p' l' q r y) → At F p l K → At F' p' l' K
at_map {F' = F'} f z = found F' (f _ _ _ z.token) z.rest

-- blanks, then an F
pub data Led (G : Lexis) {X : Type 0} (F : ℕ → List ℕ → ℕ → List ℕ → X → Type 0) : ℕ → List ℕ → ℕ → List ℕ → X → Type 0 where
  led : {p o q : ℕ} {l m r : List ℕ} {y : X} → Blanks G p l o m → F o m q r y → Led G F p l q r y

-- a member after its key, which stands from s to e, and the members after it
pub data Colon (G : Lexis) (n s e : ℕ) (cs : List ℕ) : ℕ → List ℕ → ℕ → List ℕ → Fields → Type 0 where
  colon : {p a c d q : ℕ} {l o t u r : List ℕ} {j : Json} {fs : Fields} → Blanks G p l a (code ":" ∷ o) → Blanks G (suc a) o c t → Value G n c t d u j → MoreMembers G n d u q r fs
      → Colon G n s e cs p l q r (field s e cs j fs)

module _ {G : Lexis} where
  join : {p o q : ℕ} {l m r : List ℕ} → Blanks G p l o m → Blanks G o m q r → Blanks G p l q r
  join none w = w
  join (blank t v) w = blank t (join v w)
  join (comment t n v) w = comment t n (join v w)

  pub lead : {X : Type 0} {F : ℕ → List ℕ → ℕ → List ℕ → X → Type 0} {p o q : ℕ} {l m r : List ℕ} {y : X} → Blanks G p l o m → Led G F o m q r y → Led G F p l q r y
  lead w (led v t) = led (join w v) t

  pub lead-array : {n p o q : ℕ} {l m r : List ℕ} {js : Items} → Blanks G p l o m → ArrayBody G n o m q r js → ArrayBody G n p l q r js
  lead-array w (no_elements v) = no_elements (join w v)
  lead-array w (some_elements v e) = some_elements (join w v) e

  pub lead-more_elements : {n p o q : ℕ} {l m r : List ℕ} {js : Items} → Blanks G p l o m → MoreElements G n o m q r js → MoreElements G n p l q r js
  lead-more_elements w (end_array v) = end_array (join w v)
  lead-more_elements w (next_element v u e) = next_element (join w v) u e

  pub lead-object : {n p o q : ℕ} {l m r : List ℕ} {fs : Fields} → Blanks G p l o m → ObjectBody G n o m q r fs → ObjectBody G n p l q r fs
  lead-object w (no_members v) = no_members (join w v)
  lead-object w (some_members v e) = some_members (join w v) e

  pub lead-more-members : {n p o q : ℕ} {l m r : List ℕ} {fs : Fields} → Blanks G p l o m → MoreMembers G n o m q r fs → MoreMembers G n p l q r fs
  lead-more-members w (end_object v) = end_object (join w v)
  lead-more-members w (next_member v u e) = next_member (join w v) u e

  pub lead-colon : {n s e p o q : ℕ} {cs l m r : List ℕ} {fs : Fields} → Blanks G p l o m → Colon G n s e cs o m q r fs → Colon G n s e cs p l q r fs
  lead-colon w (colon v u x t) = colon (join w v) u x t

  pub lead-objects : {n p o : ℕ} {l m : List ℕ} {js : Items} → Blanks G p l o m → Objects G n o m js → Objects G n p l js
  lead-objects w (no_more v) = no_more (join w v)
  lead-objects w (one_more v x y) = one_more (join w v) x y

  pub comma_element : {n p q e : ℕ} {l m r : List ℕ} {j : Json} {js : Items} → Led G (Value G n) (suc p) l e m j → MoreElements G n e m q r js
      → MoreElements G n p (code "," ∷ l) q r (item j js)
  comma_element (led w v) t = next_element none w (element v t)

  pub comma_member : {n p q : ℕ} {l r : List ℕ} {fs : Fields} → Led G (Members G n) (suc p) l q r fs → MoreMembers G n p (code "," ∷ l) q r fs
  comma_member (led w e) = next_member none w e

  pub colon-value : {n s e p q d : ℕ} {cs l m r : List ℕ} {j : Json} {fs : Fields} → Led G (Value G n) (suc p) l d m j → MoreMembers G n d m q r fs
      → Colon G n s e cs p (code ":" ∷ l) q r (field s e cs j fs)
  colon-value (led w v) t = colon none w v t

-- the levels of brackets in use at a control
abbrev pub level_string : StringRole → Stack → ℕ
level_string (as_value a) k = depth k
level_string (as_key a fs o) k = suc (depth k)

module _ (D : Dialect) where
  abbrev pub level : Control D → Stack → ℕ
  level AtObject k = depth k
  level AtValue k = depth k
  level (AtElement a) k = suc (depth k)
  level (After v) k = depth k
  level (AtFirstKey a) k = suc (depth k)
  level (AtKey a fs) k = suc (depth k)
  level (AtColon a fs s e cs) k = suc (depth k)
  level (InString d acc) k = level_string d k
  level (InChar d acc s) k = level_string d k
  level (InToken a s) k = depth k
  level (InComment c) k = level c k

  -- the rest of a character, then the rest of its string
  pub data InChars : CharStep D.CharState → ℕ → List ℕ → ℕ → List ℕ → List ℕ → Type 0 where
    in_chars : {y : CharStep D.CharState} {p o q c : ℕ} {l m r cs : List ℕ} → CharRun D y p l o m c → Chars D.lexis o m q r cs → InChars y p l q r (c ∷ cs)

  -- the rest of a comment, then K
  pub record AtComment (p : ℕ) (l : List ℕ) (K : ℕ → List ℕ → Type 0) : Type 0 where
    pub place : ℕ
    pub left : List ℕ
    pub token : Comment p l place left
    pub rest : K place left

  module _ (x : Items) where
    -- after the items js, in reverse, come those that make them x
    pub record AtEnd (n : ℕ) (js : Items) (p : ℕ) (l : List ℕ) : Type 0 where
      pub what : Items
      pub rest : Objects D.lexis n p l what
      pub alone : D.lexis.several ≡ false → what ≡ no_items
      pub same : reverse_items js what ≡ x

    -- after the value v
    abbrev pub RestAfter : ℕ → Stack → Json → ℕ → List ℕ → Type 0
    RestAfter n (bottom js) v p l = AtEnd n (item v js) p l
    RestAfter n (in_array a js k) v p l = At (MoreElements D.lexis n) p l (λ ks q r. RestAfter (suc n) k (arr a q (reverse_items js (item v ks))) q r)
    RestAfter n (in_object a fs s e cs k) v p l = At (MoreMembers D.lexis n) p l (λ gs q r. RestAfter (suc n) k (obj a q (reverse_fields fs (field s e cs v gs))) q r)

    -- where an object may stand or the text end; inside brackets this is never met
    abbrev pub RestObjects : ℕ → Stack → ℕ → List ℕ → Type 0
    RestObjects n (bottom js) p l = AtEnd n js p l
    RestObjects n (in_array a js k) p l = Unit {0}
    RestObjects n (in_object a fs s e cs k) p l = Unit {0}

    -- after the fields of an object
    abbrev pub RestObject : ℕ → Stack → ℕ → Fields → Fields → ℕ → List ℕ → Type 0
    RestObject n k a fs gs q r = RestAfter (suc n) k (obj a q (reverse_fields fs gs)) q r

    -- after a string
    abbrev pub RestString : StringRole → ℕ → Stack → List ℕ → ℕ → List ℕ → Type 0
    RestString (as_value a) n k cs q r = RestAfter n k (leaf a q (str cs)) q r
    RestString (as_key a fs o) n k cs q r = At (Colon D.lexis n o q cs) q r (RestObject n k a fs)

    -- at a control, where n levels are left
    abbrev pub Rest : Control D → ℕ → Stack → ℕ → List ℕ → Type 0
    Rest AtObject n k p l = D.lexis.several ≡ true → RestObjects n k p l
    Rest AtValue n k p l = At (Led D.lexis (Value D.lexis n)) p l (RestAfter n k)
    Rest (AtElement a) n k p l = At (ArrayBody D.lexis n) p l (λ js q r. RestAfter (suc n) k (arr a q js) q r)
    Rest (After v) n k p l = RestAfter n k v p l
    Rest (AtFirstKey a) n k p l = At (ObjectBody D.lexis n) p l (RestObject n k a no_fields)
    Rest (AtKey a fs) n k p l = At (Led D.lexis (Members D.lexis n)) p l (RestObject n k a fs)
    Rest (AtColon a fs s e cs) n k p l = At (Colon D.lexis n s e cs) p l (RestObject n k a fs)
    Rest (InString d acc) n k p l = At (Chars D.lexis) p l (λ cs q r. RestString d n k (reverse_aux acc cs) q r)
    Rest (InChar d acc s) n k p l = At (InChars (stay s)) p l (λ cs q r. RestString d n k (reverse_aux acc cs) q r)
    Rest (InToken a s) n k p l = At (TokenRun D (on s)) p l (λ v q r. RestAfter n k (leaf a q v) q r)
    Rest (InComment c) n k p l = AtComment p l (Rest c n k)
