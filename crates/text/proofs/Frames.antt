-- What writing a node leaves, and the frame law: words that agree from node k up to its next hold the same tree.
-- Stores by induction on the words stored; the frame by induction on the tree, each node read from words that agree.
use Prim.Native.Nat.{ℕ, zero, suc, ◌+◌, ◌-◌, ◌*◌, ◌≤◌, ◌<◌}
use native.Mathlib.Nat.{add-zero, le_of_suc-le-suc}
use native.Mathlib.Omega.{arith}
use mathlib.Core.Path.{◌≡◌, refl, sym, ap, ◌∙◌, subst}
use mathlib.Core.List.{List, [], ◌∷◌}
use lib.Dec.{leb}
use lib.ListN.{length, get_or, set, length-set}
use lib.Seq.{sets, length-sets, get_or-set_same, get_or-set_other}
use borrow.Author.Tests.{le-leb}
use Rattle.grammar.specs.Tree.{Json, Items, Fields}
use Rattle.grammar.specs.Tree.Json.{leaf, arr, obj}
use Rattle.grammar.specs.Tree.Items.{no_items, item}
use Rattle.grammar.specs.Tree.Fields.{no_fields, field}
use Rattle.grammar.specs.Serving.Machine.{Dialect}
use Rattle.grammar.proofs.Booleans.{by}
use Rattle.words.specs.Items.{put_item}
use Rattle.text.specs.Nodes.{node_words, node, put_node, Node, next, Holds, HoldsItems, HoldsFields}
use Rattle.text.specs.Containers.{container_node, Entries, container, HoldsEntries}
use Rattle.text.specs.Readers.{Wrote}
use Rattle.text.specs.declared.containers.Container.{Container}
use Rattle.text.specs.declared.containers.Container.TheVariants.{Array, Object}

-- words stored one after the other
sets_below : (vs l : List ℕ) (i x : ℕ) → x < i → get_or (sets l i vs) x 0 ≡ get_or l x 0
sets_below [] l i x h = refl
sets_below (v ∷ vs) l i x h = sets_below vs (set l i v) (suc i) x (omega arith) ∙ get_or-set_other l i x v 0 (omega arith)

sets-above : (vs l : List ℕ) (i x : ℕ) → i + length vs ≤ x → get_or (sets l i vs) x 0 ≡ get_or l x 0
sets-above [] l i x h = refl
sets-above (v ∷ vs) l i x h = sets-above vs (set l i v) (suc i) x (omega arith) ∙ get_or-set_other l i x v 0 (omega arith)

sets-inside : (vs l : List ℕ) (i j : ℕ) → j < length vs → i + length vs ≤ length l → get_or (sets l i vs) (i + j) 0 ≡ get_or vs j 0
sets-inside [] l i j h g = absurd (omega arith)
sets-inside (v ∷ vs) l i zero h g = rw (add-zero i) (sets_below vs (set l i v) (suc i) i (omega arith) ∙ get_or-set_same l i v 0 (omega arith))
sets-inside (v ∷ vs) l i (suc j) h g =
    let e : i + suc j ≡ suc i + j = omega arith in
    ap (λ (x : ℕ). get_or (sets (set l i v) (suc i) vs) x 0) e ∙ sets-inside vs (set l i v) (suc i) j (le_of_suc-le-suc h) (simp length-set (omega arith))

-- node k says this, and its next is n
pub record Put (w : List ℕ) (k kind start end n : ℕ) : Type 0 where
  pub is : Node w k kind start end
  pub goes : next w k ≡ n

module _ (w : List ℕ) (k kind start end n : ℕ) where
  words : List ℕ
  words = kind ∷ start ∷ end ∷ n ∷ []

  -- if the words have no room for it nothing is written
  pub put-wrote : Wrote w (put_node w k kind start end n) k (suc k)
  unfolding put_item words
  put-wrote =
      by (λ x. Wrote w x k (suc k)) (leb (node_words * k + node_words) (length w))
      (λ _. record {
        same_length = length-sets w (node_words * k) words;
        below = λ x h. sets_below words w (node_words * k) x h;
        above = λ x h. sets-above words w (node_words * k) x (omega arith);
      })
      (λ _. record { same_length = refl; below = λ x h. refl; above = λ x h. refl })

  pub put-there : node_words * k + node_words ≤ length w → Put (put_node w k kind start end n) k kind start end n
  unfolding put_item words
  put-there h =
      rw (le-leb (node_words * k + node_words) (length w) h)
      record {
        is =
            record {
              has_kind = sets-inside words w (node_words * k) 0 (omega arith) h;
              has_start = sets-inside words w (node_words * k) 1 (omega arith) h;
              has_end = sets-inside words w (node_words * k) 2 (omega arith) h;
            };
        goes = sets-inside words w (node_words * k) 3 (omega arith) h;
      }

-- two lists of words that agree from node a up to node b
abbrev pub Agree : List ℕ → List ℕ → ℕ → ℕ → Type 0
Agree w w' a b = (x : ℕ) → node_words * a ≤ x → x < node_words * b → get_or w' x 0 ≡ get_or w x 0

-- a container's node, and what is in it up to the node after it
container_node_lem : (P : ℕ → Type 0) {w : List ℕ} {kind k l a e n : ℕ} → k < n → 0 < l → Put w k kind a e n → P n
    → Node w k kind a e × (k < next w k) × (0 < l) × P (next w k)
container_node_lem P h g p f = (p.is, omega (arith, p.goes), g, subst P (sym p.goes) f)

module _ (D : Dialect) (s w : List ℕ) where
  pub container-held : (c : Container) (es : Entries c) (l k a e n : ℕ) → k < n → 0 < l → Put w k (container_node c) a e n → HoldsEntries D s w c es (l - 1) (suc k) n
      → Holds D s w (container c a e es) l k
  container-held Array es l k a e n h g p f = container_node_lem (λ (m : ℕ). HoldsItems D s w es (l - 1) (suc k) m) h g p f
  container-held Object es l k a e n h g p f = container_node_lem (λ (m : ℕ). HoldsFields D s w es (l - 1) (suc k) m) h g p f

module _ (D : Dialect) (s w : List ℕ) where
  pub goes_on : (j : Json) (l k : ℕ) → Holds D s w j l k → k < next w k
  goes_on (leaf a e v) l k h = omega (arith, h.1)
  goes_on (arr a e js) l k h = h.1
  goes_on (obj a e fs) l k h = h.1

  pub items_rise : (js : Items) (l k n : ℕ) → HoldsItems D s w js l k n → k ≤ n
  items_rise no_items l k n h = omega arith
  items_rise (item j js) l k n h = omega arith

  pub fields_rise : (fs : Fields) (l k n : ℕ) → HoldsFields D s w fs l k n → k ≤ n
  fields_rise no_fields l k n h = omega arith
  fields_rise (field a e cs j fs) l k n h = omega arith

  module _ (w' : List ℕ) where
    pub word_same : (k n i : ℕ) → k < n → i < node_words → Agree w w' k n → node w' k i ≡ node w k i
    word_same k n i h g q = q (node_words * k + i) (omega arith) (omega arith)

    pub node-same : (k n kind a e : ℕ) → k < n → Agree w w' k n → Node w k kind a e → Node w' k kind a e
    node-same k n kind a e h q x =
        record {
          has_kind = word_same k n 0 h (omega arith) q ∙ x.has_kind;
          has_start = word_same k n 1 h (omega arith) q ∙ x.has_start;
          has_end = word_same k n 2 h (omega arith) q ∙ x.has_end;
        }

    -- a node with its own next
    put_same : {kind : ℕ} (k a e : ℕ) → k < next w k → Agree w w' k (next w k) → Node w k kind a e → Put w' k kind a e (next w k)
    put_same k a e h q x = record { is = node-same k (next w k) _ a e h q x; goes = word_same k (next w k) 3 h (omega arith) q }

    mutual
      pub frame : (j : Json) (l k : ℕ) → Agree w w' k (next w k) → Holds D s w j l k → Holds D s w' j l k
      frame (leaf a e v) l k q h =
          let o : k < next w k = omega (arith, h.1) in
          (node-same k (next w k) _ a e o q h.0, word_same k (next w k) 3 o (omega arith) q ∙ h.1, h.2)
      frame (arr a e js) l k q h =
          container-held D s w' Array js l k a e (next w k) h.1 h.2 (put_same k a e h.1 q h.0)
          (frame-items js (l - 1) (suc k) (next w k) (λ x a b. q x (omega arith) b) h.3)
      frame (obj a e fs) l k q h =
          container-held D s w' Object fs l k a e (next w k) h.1 h.2 (put_same k a e h.1 q h.0)
          (frame-fields fs (l - 1) (suc k) (next w k) (λ x a b. q x (omega arith) b) h.3)

      pub frame-items : (js : Items) (l k n : ℕ) → Agree w w' k n → HoldsItems D s w js l k n → HoldsItems D s w' js l k n
      frame-items no_items l k n q h = h
      frame-items (item j js) l k n q h =
          let z : next w' k ≡ next w k = word_same k n 3 h.0 (omega arith) q in
          let r : next w k ≤ n = items_rise js l (next w k) n h.2 in
          let o : k < next w k = goes_on j l k h.1 in (
            h.0,
            frame j l k (λ x a b. q x a (omega arith)) h.1,
            subst (λ (m : ℕ). HoldsItems D s w' js l m n) (sym z) (frame-items js l (next w k) n (λ x a b. q x (omega arith) b) h.2),
          )

      pub frame-fields : (fs : Fields) (l k n : ℕ) → Agree w w' k n → HoldsFields D s w fs l k n → HoldsFields D s w' fs l k n
      frame-fields no_fields l k n q h = h
      frame-fields (field a e cs j fs) l k n q h =
          let z : next w' k ≡ next w k = word_same k n 3 h.0 (omega arith) q in
          let r : next w k ≤ n = fields_rise fs l (next w k) n h.5 in
          let o : suc k < next w (suc k) = goes_on j l (suc k) h.3 in
          let y : next w' (suc k) ≡ next w (suc k) = word_same (suc k) n 3 (omega (arith, h.4)) (omega arith) (λ x a b. q x (omega arith) b) in (
            h.0,
            node-same k n _ a e h.0 q h.1,
            h.2,
            frame j l (suc k) (λ x a b. q x (omega arith) (omega (arith, h.4))) h.3,
            z ∙ h.4 ∙ sym y,
            subst (λ (m : ℕ). HoldsFields D s w' fs l m n) (sym z) (frame-fields fs l (next w k) n (λ x a b. q x (omega (arith, h.4)) b) h.5),
          )

    pub frame-entries : (c : Container) (es : Entries c) (l k n : ℕ) → Agree w w' k n → HoldsEntries D s w c es l k n → HoldsEntries D s w' c es l k n
    frame-entries Array = frame-items
    frame-entries Object = frame-fields
