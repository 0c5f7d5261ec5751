-- The keys of an object by number: the fields that its nodes hold have theirs, and nodes rise with numbers.
use Prim.Native.Nat.{ℕ, zero, suc, ◌+◌, ◌-◌, ◌≤◌, ◌<◌}
use native.Mathlib.Omega.{arith}
use native.Mathlib.Nat.{le_of_suc-le-suc}
use native.Mathlib.Decide.{dec_lt}
use mathlib.Core.Path.{◌≡◌, refl, sym, ap, ◌∙◌, subst, subst₂}
use mathlib.Core.Bool.{Bool, true, false, cond}
use mathlib.Core.List.{List, []}
use lib.Dec.{eqb}
use lib.ListN.{length, get_or}
use borrow.Author.Tests.{eqb-true}
use Rattle.grammar.specs.Tree.{Json, Fields}
use Rattle.grammar.specs.Tree.Fields.{no_fields, field}
use Rattle.grammar.specs.Keys.{keys_of}
use Rattle.grammar.specs.Serving.Machine.{Dialect}
use Rattle.strings.specs.Strings.{plain_string, Means}
use Rattle.strings.specs.Meanings.{MeansSame}
use Rattle.strings.specs.Hashes.{MeansHash}
use Rattle.tokens.specs.NodeKinds.{plain_key_node, other_key_node}
use Rattle.tokens.specs.Tokens.{key_node}
use Rattle.text.specs.Nodes.{next, HoldsFields, node_end, node_kind, node_start}
use Rattle.text.specs.Fields.{KeyAt, SameKeys, KeyHash, node_of, Keys}
use Rattle.text.proofs.Frames.{goes_on}

-- ---- one key

-- a key's node says that it is plain only where it is
plain-key : (s : List ℕ) (a e k : ℕ) → k ≡ key_node s a e → eqb k plain_key_node ≡ true → plain_string s a e ≡ true
plain-key s a e k h t = go (plain_string s a e) (sym (eqb-true k plain_key_node t) ∙ h)
  where
    go : (b : Bool) → ◌≡◌ {A = ℕ} plain_key_node (cond b plain_key_node other_key_node) → b ≡ true
    go true q = refl
    go false q = absurd (omega arith)

-- what a key means, and whether it is plain, by the places and the kind that its node's words say
pub key-words : {D : Dialect} {s w cs : List ℕ} {a i j k : ℕ} → KeyAt D s w a cs → i ≡ node_start w a → j ≡ node_end w a → k ≡ node_kind w a
    → Means D s i j cs × (eqb k plain_key_node ≡ true → plain_string s i j ≡ true)
key-words {D} {s} {cs = cs} {k = k} u pi pj pk =
    let ui = sym (pi ∙ u.node_is.has_start) in
    let uj = sym (pj ∙ u.node_is.has_end) in (
      subst₂ (λ (p q : ℕ). Means D s p q cs) ui uj u.means,
      λ t. subst₂ (λ (p q : ℕ). plain_string s p q ≡ true) ui uj (plain-key s u.start u.end k (pk ∙ u.node_is.has_kind) t),
    )

pub same_keys : {D : Dialect} {s w : List ℕ} {a b i j k x y m : ℕ} {r : Bool} → i ≡ node_start w a → j ≡ node_end w a → k ≡ node_kind w a → x ≡ node_start w b
    → y ≡ node_end w b → m ≡ node_kind w b → MeansSame D s i j (eqb k plain_key_node) x y (eqb m plain_key_node) r → SameKeys D s w a b r
same_keys pi pj pk px py pm h =
    record { told = λ cs ds u v. let p = key-words u pi pj pk in let q = key-words v px py pm in h.told cs ds p.0 q.0 p.1 q.1 }

pub hashed_key : {D : Dialect} {s w : List ℕ} {a i j k r : ℕ} → i ≡ node_start w a → j ≡ node_end w a → k ≡ node_kind w a → MeansHash D s i j (eqb k plain_key_node) r
    → KeyHash D s w a r
hashed_key pi pj pk h = record { told = λ cs u. let p = key-words u pi pj pk in h.told cs p.0 p.1 }

-- ---- numbers and nodes

pub node-first : (w : List ℕ) (b : ℕ) → b ≡ node_of w b 0
unfolding node_of
node-first w b = refl

pub node-next : (w : List ℕ) (b m : ℕ) {i n : ℕ} → i ≡ node_of w b m → n ≡ next w i → n ≡ node_of w b (suc m)
unfolding node_of
node-next w b m p q = q ∙ ap (next w) p

-- the nodes from the second key on are those of an object that begins there
shift : (w : List ℕ) (b m : ℕ) → node_of w (next w b) m ≡ node_of w b (suc m)
unfolding node_of
shift w b zero = refl
shift w b (suc m) = ap (next w) (shift w b m)

module _ {D : Dialect} {s w : List ℕ} {b n : ℕ} {f : ℕ → List ℕ} {count : ℕ} (v : Keys D s w b n f count) where
  nodes_up : (d m q : ℕ) → q ≡ suc (m + d) → q ≤ count → suc (node_of w b m) < node_of w b q
  nodes_up zero m q e h = subst (λ (j : ℕ). suc (node_of w b m) < node_of w b j) {x = suc m} {y = q} (omega arith) (v.on m (omega arith))
  nodes_up (suc d) m q e h =
      let a = nodes_up d m (suc (m + d)) refl (omega arith) in
      let c = v.on (suc (m + d)) (omega arith) in
      subst (λ (j : ℕ). suc (node_of w b m) < node_of w b j) {x = suc (suc (m + d))} {y = q} (omega arith) (omega arith)

  pub nodes_rise : (m q : ℕ) → m < q → q ≤ count → suc (node_of w b m) < node_of w b q
  nodes_rise m q h g = nodes_up (q - suc m) m q (omega arith) g

  pub nodes_rise_to : (m q : ℕ) → m ≤ q → q ≤ count → node_of w b m ≤ node_of w b q
  nodes_rise_to m q h g = go (dec_lt m q)
    where
      go : Dec (m < q) → node_of w b m ≤ node_of w b q
      go (yes k) = omega (arith, nodes_rise m q k g)
      go (no k) = let e : node_of w b m ≡ node_of w b q = ap (node_of w b) (omega arith) in omega arith

  -- a number whose node comes before the end, or before another's, comes before
  pub number-within : (m : ℕ) → m ≤ count → node_of w b m < n → m < count
  number-within m h g = go (dec_lt m count)
    where
      go : Dec (m < count) → m < count
      go (yes k) = k
      go (no k) = let e : node_of w b m ≡ node_of w b count = ap (node_of w b) (omega arith) in absurd (omega (arith, v.end))

  pub number-before : (m q : ℕ) → m ≤ q → node_of w b m < node_of w b q → m < q
  number-before m q h g = go (dec_lt m q)
    where
      go : Dec (m < q) → m < q
      go (yes k) = k
      go (no k) = let e : node_of w b m ≡ node_of w b q = ap (node_of w b) (omega arith) in absurd (omega arith)

  pub number_same : (m q : ℕ) → m ≤ q → q ≤ count → node_of w b q ≤ node_of w b m → m ≡ q
  number_same m q h g k = go (dec_lt m q)
    where
      go : Dec (m < q) → m ≡ q
      go (yes l) = let r = nodes_rise m q l g in absurd (omega arith)
      go (no l) = omega arith

  pub node-above : (m : ℕ) → m ≤ count → b ≤ node_of w b m
  node-above m h = omega (arith, nodes_rise_to 0 m (omega arith) h, node-first w b)

  pub node-below : (m : ℕ) → m ≤ count → node_of w b m ≤ n
  node-below m h = omega (arith, nodes_rise_to m count h (omega arith), v.end)

  pub key_at_lem : (m : ℕ) {i : ℕ} → m < count → i ≡ node_of w b m → KeyAt D s w i (f m)
  key_at_lem m h e = subst (λ (k : ℕ). KeyAt D s w k (f m)) (sym e) (v.at m h)

-- ---- what the nodes of an object hold

abbrev pub key_in : Fields → ℕ → List ℕ
key_in fs m = get_or (keys_of fs) m []

-- one key more, in front
keys_more : (D : Dialect) (s w : List ℕ) (a e : ℕ) (cs : List ℕ) (j : Json) (fs : Fields) (l b n : ℕ) → HoldsFields D s w (field a e cs j fs) l b n
    → Keys D s w (next w b) n (key_in fs) (length (keys_of fs)) → Keys D s w b n (key_in (field a e cs j fs)) (suc (length (keys_of fs)))
keys_more D s w a e cs j fs l b n h rest = record { at = at; on = on; end = sym (shift w b (length (keys_of fs))) ∙ rest.end }
  where
    at : (m : ℕ) → m < suc (length (keys_of fs)) → KeyAt D s w (node_of w b m) (key_in (field a e cs j fs) m)
    at zero g = subst (λ (k : ℕ). KeyAt D s w k cs) (node-first w b) (record { start = a; end = e; node_is = h.1; means = h.2 })
    at (suc m) g = subst (λ (k : ℕ). KeyAt D s w k (key_in fs m)) (shift w b m) (rest.at m (le_of_suc-le-suc g))

    on : (m : ℕ) → m < suc (length (keys_of fs)) → suc (node_of w b m) < node_of w b (suc m)
    on zero g = omega (arith, goes_on D s w j l (suc b) h.3, h.4, node-first w b, node-next w b 0 (node-first w b) refl)
    on (suc m) g = omega (arith, rest.on m (le_of_suc-le-suc g), shift w b m, shift w b (suc m))

pub keys_of_lem : (D : Dialect) (s w : List ℕ) (fs : Fields) (l b n : ℕ) → HoldsFields D s w fs l b n → Keys D s w b n (key_in fs) (length (keys_of fs))
keys_of_lem D s w no_fields l b n h = record { at = λ m g. absurd (omega arith); on = λ m g. absurd (omega arith); end = sym (node-first w b) ∙ h }
keys_of_lem D s w (field a e cs j fs) l b n h = keys_more D s w a e cs j fs l b n h (keys_of_lem D s w fs l (next w b) n h.5)
