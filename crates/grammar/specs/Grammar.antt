-- The structure that schema text and message text share, production by production (Reference, Structure; RFC 8259, 2 to 5).
-- The first number of `Value n ..` and of the like is the most levels of brackets inside it.
use Prim.Native.{Nat.ℕ, Nat.suc, Char.code}
use mathlib.Core.{Path.◌≡◌, Bool.true, Bool.false, List.List, List.[], List.◌∷◌}
use Rattle.std.specs.Prelude.{eqb}
use Rattle.grammar.specs.Tree.{Scalar, Scalar.str, Json, Json.leaf, Json.arr, Json.obj, Items, Items.no_items, Items.item, Fields, Fields.no_fields, Fields.field}
use Rattle.grammar.specs.Lexis.{Lexis}

-- Reference, Text of schemas: a comment after its first byte, to past its LF or to the end; its other bytes are free
pub data Comment : ℕ → List ℕ → ℕ → List ℕ → Type 0 where
  text_end : {p : ℕ} → Comment p [] p []
  line_end : {p : ℕ} {r : List ℕ} → Comment p (code "\n" ∷ r) (suc p) r
  free : {p q b : ℕ} {l r : List ℕ} → eqb b (code "\n") ≡ false → Comment (suc p) l q r → Comment p (b ∷ l) q r

module _ (G : Lexis) where
  -- Reference, Structure and Text of schemas, and RFC 8259, 2: what may stand between tokens is blanks and comments, or nothing
  pub data Blanks : ℕ → List ℕ → ℕ → List ℕ → Type 0 where
    none : {p : ℕ} {l : List ℕ} → Blanks p l p l
    blank : {p q b : ℕ} {l r : List ℕ} → G.blank b ≡ true → Blanks (suc p) l q r → Blanks p (b ∷ l) q r
    comment : {p o q b : ℕ} {l m r : List ℕ} → G.comment b ≡ true → Comment (suc p) l o m → Blanks o m q r → Blanks p (b ∷ l) q r

  -- RFC 8259, 7: a string after its opening quote, to past its closing quote, and its code points
  pub data Chars : ℕ → List ℕ → ℕ → List ℕ → List ℕ → Type 0 where
    close : {p b : ℕ} {r : List ℕ} → G.quote b ≡ true → Chars p (b ∷ r) (suc p) r []
    char : {p o q c : ℕ} {l m r cs : List ℕ} → G.Char p l o m c → Chars o m q r cs → Chars p l q r (c ∷ cs)

  mutual
    -- RFC 8259, 3: a value; its tree has its start and its end
    pub data Value : ℕ → ℕ → List ℕ → ℕ → List ℕ → Json → Type 0 where
      unquoted : {n p q : ℕ} {l r : List ℕ} {v : Scalar} → G.Unquoted p l q r v → Value n p l q r (leaf p q v)
      string : {n p q b : ℕ} {l r cs : List ℕ} → G.quote b ≡ true → Chars (suc p) l q r cs → Value n p (b ∷ l) q r (leaf p q (str cs))
      array : {n p q : ℕ} {l r : List ℕ} {js : Items} → ArrayBody n (suc p) l q r js → Value (suc n) p (code "[" ∷ l) q r (arr p q js)
      object : {n p q : ℕ} {l r : List ℕ} {fs : Fields} → ObjectBody n (suc p) l q r fs → Value (suc n) p (code "{" ∷ l) q r (obj p q fs)

    -- RFC 8259, 5: an array after its opening bracket, to past its closing one
    pub data ArrayBody : ℕ → ℕ → List ℕ → ℕ → List ℕ → Items → Type 0 where
      no_elements : {n p o : ℕ} {l r : List ℕ} → Blanks p l o (code "]" ∷ r) → ArrayBody n p l (suc o) r no_items
      some_elements : {n p o q : ℕ} {l m r : List ℕ} {js : Items} → Blanks p l o m → Elements n o m q r js → ArrayBody n p l q r js

    -- an element and those after it
    pub data Elements : ℕ → ℕ → List ℕ → ℕ → List ℕ → Items → Type 0 where
      element : {n p o q : ℕ} {l m r : List ℕ} {j : Json} {js : Items} → Value n p l o m j → MoreElements n o m q r js → Elements n p l q r (item j js)

    -- after an element: the closing bracket, or a comma and another element
    pub data MoreElements : ℕ → ℕ → List ℕ → ℕ → List ℕ → Items → Type 0 where
      end_array : {n p o : ℕ} {l r : List ℕ} → Blanks p l o (code "]" ∷ r) → MoreElements n p l (suc o) r no_items
      next_element : {n p o a q : ℕ} {l m t r : List ℕ} {js : Items} → Blanks p l o (code "," ∷ m) → Blanks (suc o) m a t → Elements n a t q r js → MoreElements n p l q r js

    -- RFC 8259, 4: an object after its opening brace, to past its closing one
    pub data ObjectBody : ℕ → ℕ → List ℕ → ℕ → List ℕ → Fields → Type 0 where
      no_members : {n p o : ℕ} {l r : List ℕ} → Blanks p l o (code "}" ∷ r) → ObjectBody n p l (suc o) r no_fields
      some_members : {n p o q : ℕ} {l m r : List ℕ} {fs : Fields} → Blanks p l o m → Members n o m q r fs → ObjectBody n p l q r fs

    -- A member, which is a key, a colon and a value, and those after it; the tree has the key's start and end. Its places, and what is left of the text at each:
    --     start       key_end    colon         value        value_end    end
    --     "in_key     after_key  :after_colon  at_value     more         rest
    pub data Members : ℕ → ℕ → List ℕ → ℕ → List ℕ → Fields → Type 0 where
      member : {n start key_end colon value value_end end quote : ℕ} {in_key after_key after_colon at_value more rest cs : List ℕ} {j : Json} {fs : Fields}
          → G.quote quote ≡ true → Chars (suc start) in_key key_end after_key cs → Blanks key_end after_key colon (code ":" ∷ after_colon)
          → Blanks (suc colon) after_colon value at_value → Value n value at_value value_end more j → MoreMembers n value_end more end rest fs
          → Members n start (quote ∷ in_key) end rest (field start key_end cs j fs)

    -- after a member: the closing brace, or a comma and another member
    pub data MoreMembers : ℕ → ℕ → List ℕ → ℕ → List ℕ → Fields → Type 0 where
      end_object : {n p o : ℕ} {l r : List ℕ} → Blanks p l o (code "}" ∷ r) → MoreMembers n p l (suc o) r no_fields
      next_member : {n p o a q : ℕ} {l m t r : List ℕ} {fs : Fields} → Blanks p l o (code "," ∷ m) → Blanks (suc o) m a t → Members n a t q r fs → MoreMembers n p l q r fs

  -- Reference, Text of schemas: objects that follow each other without commas, to the end of the text
  pub data Objects : ℕ → ℕ → List ℕ → Items → Type 0 where
    no_more : {n p q : ℕ} {l : List ℕ} → Blanks p l q [] → Objects n p l no_items
    one_more : {n p o q : ℕ} {l m r : List ℕ} {j : Json} {js : Items} → Blanks p l o (code "{" ∷ m) → Value n o (code "{" ∷ m) q r j → Objects n q r js → Objects n p l (item j js)

  -- a whole text and the trees of its outermost values: any number of objects (Reference, Text of schemas), or one value (RFC 8259, 2)
  pub data Text : ℕ → List ℕ → Items → Type 0 where
    objects : {n : ℕ} {l : List ℕ} {js : Items} → G.several ≡ true → Objects n 0 l js → Text n l js
    one_value : {n o q e : ℕ} {l m r : List ℕ} {j : Json} → G.several ≡ false → Blanks 0 l o m → Value n o m q r j → Blanks q r e [] → Text n l (item j no_items)
