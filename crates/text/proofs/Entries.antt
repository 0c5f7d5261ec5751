-- Reading a container: the entries so far, and one law for each way on and each return of `read_container`.
-- The run so far ends where an entry is next, with the entries in reverse; the nodes so far hold them before any that follow.
use Prim.Native.Nat.{ℕ, suc, ◌+◌, ◌-◌, ◌*◌, ◌≤◌, ◌<◌}
use Prim.Native.Char.{code}
use native.Mathlib.Numerals.{add-one}
use native.Mathlib.Omega.{arith}
use mathlib.Core.Path.{◌≡◌, refl, sym, ap, ◌∙◌, subst}
use mathlib.Core.List.{List}
use lib.ListN.{length, get_or}
use Rattle.grammar.specs.Tree.{Json}
use Rattle.grammar.specs.Serving.Machine.{Dialect, Stack, depth}
use Rattle.grammar.specs.Serving.Machine.Control.{AtValue, After}
use Rattle.grammar.proofs.TokenRuns.{TokensComplete}
use Rattle.tokens.specs.Tokens.{Skips.after_value, Skipped, Follows}
use Rattle.text.specs.Nodes.{node_words, put_node, HoldsItems, HoldsFields}
use Rattle.text.specs.Containers.{opening, closing, container_node, Entries, KeyOf, no_entries, entry, reverse_entries, container, HoldsEntries, at_first, at_entry, around_entry, around_value}
use Rattle.text.specs.Readers.{Wrote, value_spare, spare, ValueRead, ValueEnds, ReadsValue, EntryRead, EntryEnds, ReadsEntry, Opens}
use Rattle.std.specs.Prelude.{Result, Ok, Err}
use Rattle.strings.specs.declared.chars.Fault.{Fault as Faulty}
use Rattle.text.specs.declared.reader.Past.{Past}
use Rattle.text.specs.declared.reader.TextError.{TextError}
use Rattle.text.specs.declared.reader.TextError.TheVariants.{Fault, Deep}
use Rattle.text.specs.declared.containers.Container.{Container}
use Rattle.text.specs.declared.containers.Container.TheVariants.{Array, Object}
use Rattle.tokens.specs.declared.separators.Following.{Following}
use Rattle.tokens.specs.declared.separators.Following.TheVariants as Follow
use Rattle.text.proofs.Frames.{put-wrote, Agree, items_rise, fields_rise, frame-entries, container-held}
use Rattle.text.proofs.Places.{Runs, then, then-ends, blanks, container-opens, container-deep, no_entry, first_entry, entry_comma, entry-close, entry_neither, at_first_lem}
use Rattle.text.proofs.Inside.{Read, past, entry-told, told-on, at_comma, at-close, at_neither}
use Rattle.text.proofs.Inside.{Reached, spare-most, reached-first, reached-entry, reached-past, reached-moved, reached-put}

module _ (D : Dialect) (s : List ℕ) where
  -- before what is held from node n on, the words hold the entries es too, from node k on
  abbrev pub HeldEntries : List ℕ → (c : Container) → Entries c → ℕ → ℕ → ℕ → Type 0
  HeldEntries w c es left k n =
      (w' : List ℕ) → Agree w w' k n → (gs : Entries c) (m : ℕ) → HoldsEntries D s w' c gs left n m → HoldsEntries D s w' c (reverse_entries c es gs) left k m

  pub held_none : (w : List ℕ) (c : Container) (left k : ℕ) → HeldEntries w c (no_entries c) left k k
  held_none w Array left k w' q gs m h = h
  held_none w Object left k w' q gs m h = h

  holds-none : (w : List ℕ) (c : Container) (left k n : ℕ) → k ≡ n → HoldsEntries D s w c (no_entries c) left k n
  holds-none w Array left k n h = h
  holds-none w Object left k n h = h

  entries-before : (w : List ℕ) (c : Container) (key : KeyOf c) (j : Json) (gs : Entries c) (left k n m : ℕ) → HoldsEntries D s w c (entry c key j (no_entries c)) left k n
      → HoldsEntries D s w c gs left n m → HoldsEntries D s w c (entry c key j gs) left k m
  entries-before w Array key j gs left k n m h g =
      let l : n ≤ m = items_rise D s w gs left n m g in (omega (arith, h.0), h.1, subst (λ (u : ℕ). HoldsItems D s w gs left u m) (sym h.2) g)
  entries-before w Object key j gs left k n m h g =
      let l : n ≤ m = fields_rise D s w gs left n m g in
      (omega (arith, h.0), h.1, h.2, h.3, h.4, subst (λ (u : ℕ). HoldsFields D s w gs left u m) (sym h.5) g)

  reverse-entry : (c : Container) (key : KeyOf c) (j : Json) (es gs : Entries c) → reverse_entries c es (entry c key j gs) ≡ reverse_entries c (entry c key j es) gs
  reverse-entry Array key j es gs = refl
  reverse-entry Object key j es gs = refl

  pub held-entry : (w new : List ℕ) (c : Container) (es : Entries c) (key : KeyOf c) (v : Json) (left k n m : ℕ) → k ≤ n → n < m → Wrote w new n m → HeldEntries w c es left k n
      → HoldsEntries D s new c (entry c key v (no_entries c)) left n m → HeldEntries new c (entry c key v es) left k m
  held-entry w new c es key v left k n m h g r f b w' q gs x y =
      let one = frame-entries D s new w' c (entry c key v (no_entries c)) left n m (λ y c d. q y (omega arith) d) b in
      subst (λ (u : Entries c). HoldsEntries D s w' c u left k x) (reverse-entry c key v es gs)
      (f w' (λ y c d. q y c (omega arith) ∙ r.below y d) (entry c key v gs) x (entries-before w' c key v gs left n m x one y))

-- the container at place `at` is whole, once its node is written
container-read : (c : Container) {D : Dialect} {s old w put : List ℕ} {at k levels e n kind : ℕ} (es : Entries c) → 0 < levels → Reached s old w at k e n (spare (opening c))
    → ((lim : ℕ) (K : Stack) → depth K + levels ≡ lim → Runs D s lim AtValue K at (After (container c at e es)) K e)
    → (node_words * n ≤ length w → (w' : List ℕ) → Agree w w' (suc k) n → HoldsEntries D s w' c es (levels - 1) (suc k) n) → kind ≡ container_node c
    → put ≡ put_node w k kind at e n → ReadsValue (spare (opening c)) D s old put at k levels (past e n)
container-read c {D} {s} {old} {w} {put} {at} {k} {levels} {e} {n} es l r run held g q =
    let new : List ℕ = put_node w k (container_node c) at e n in
    let u = put-wrote w k (container_node c) at e n in
    subst (λ (x : List ℕ). ReadsValue (spare (opening c)) D s old x at k levels (past e n)) (sym (q ∙ ap (λ (x : ℕ). put_node w k x at e n) g))
    record {
      told =
          record {
            moved = reached-moved (container_node c) r;
            tree = container c at e es;
            runs = λ lim K d. (run lim K d).path;
            holds = λ z.
                container-held D s new c es levels k at e n r.nodes l (reached-put (container_node c) r z) (held (omega (arith, u.same_length)) new (λ y a b. u.above y a));
            ends = λ z. (reached-put (container_node c) r z).goes;
          };
    }

-- at place i, where an entry is next, from node n on
pub record EntriesAt (c : Container) (close : ℕ) (D : Dialect) (s old w : List ℕ) (at k levels i n : ℕ) : Type 0 where
  pub laws : TokensComplete D
  pub closes : close ≡ closing c
  pub deep : 0 < levels
  pub reached : Reached s old w at k i n value_spare
  pub entries : Entries c
  pub runs : (lim : ℕ) (K : Stack) → depth K + levels ≡ lim → Runs D s lim AtValue K at (at_entry D c at entries) (around_entry c at entries K) i
  pub held : node_words * n ≤ length w → HeldEntries D s w c entries (levels - 1) (suc k) n

-- at place e, after an entry
pub record EntriesPast (c : Container) (close : ℕ) (D : Dialect) (s old w : List ℕ) (at k levels e n : ℕ) : Type 0 where
  pub laws : TokensComplete D
  pub closes : close ≡ closing c
  pub deep : 0 < levels
  pub reached : Reached s old w at k e n (spare (opening c) + 1)
  pub entries : Entries c
  pub key : KeyOf c
  pub tree : Json
  pub runs : (lim : ℕ) (K : Stack) → depth K + levels ≡ lim → Runs D s lim AtValue K at (After tree) (around_value c at entries key K) e
  pub held : node_words * n ≤ length w → HeldEntries D s w c (entry c key tree entries) (levels - 1) (suc k) n

module _ {c : Container} {D : Dialect} (L : TokensComplete D) {s : List ℕ} {at k levels : ℕ} (o : Opens c s at k) where
  pub container-too_deep : {w : List ℕ} → levels ≡ 0 → ReadsValue (spare (opening c)) D s w w at k levels (Err (Deep at))
  container-too_deep z = record { told = (refl, λ lim K d. (container-deep L {lim = lim} {K = K} o.here c (omega arith) o.byte).path) }

  module _ {first close : ℕ} (l : levels ≡ 0 → ⊥) (x : Skipped D s (at + 1) first) (q : close ≡ closing c) where
    container-begins : {lim : ℕ} {K : Stack} → depth K + levels ≡ lim → Runs D s lim AtValue K at (at_first D c at) K first
    container-begins d = then (container-opens L o.here c (omega arith) o.byte) (blanks (at_first_lem D s c at) x)

    pub entries_none : {w put : List ℕ} {kind : ℕ} → (first < length s) × (get_or s first 0 ≡ close) → kind ≡ container_node c → put ≡ put_node w k kind at (first + 1) (k + 1)
        → ReadsValue (spare (opening c)) D s w put at k levels (past (first + 1) (k + 1))
    entries_none y =
        container-read c (no_entries c) (omega arith) (reached-past (reached-first o x) (omega arith) (omega arith) (omega arith))
        (λ lim K d. then (container-begins d) (no_entry L y.0 c at (y.1 ∙ q)))
        (λ f w' g. holds-none D s w' c (levels - 1) (suc k) (k + 1) (omega arith))

    pub entries_begin : {w : List ℕ} → (first < length s → get_or s first 0 ≡ close → ⊥) → EntriesAt c close D s w w at k levels first (k + 1)
    entries_begin {w} y =
        record {
          laws = L;
          closes = q;
          deep = omega arith;
          reached = reached-first o x;
          entries = no_entries c;
          runs = λ lim K d. then (container-begins d) (first_entry x.solid c at K (λ h z. y h (z ∙ sym q)));
          held = λ f. subst (λ (u : ℕ). HeldEntries D s w c (no_entries c) (levels - 1) (suc k) u) (sym (add-one k)) (held_none D s w c (levels - 1) (suc k));
        }

module _ {c : Container} {close : ℕ} {D : Dialect} {s old w : List ℕ} {at k levels i n : ℕ} where
  module _ {new : List ℕ} {r : Read} (a : EntriesAt c close D s old w at k levels i n) (f : ReadsEntry c D s w new i n (levels - 1) r) where
    pub entries-past : {y : Past} → r ≡ Ok y → EntriesPast c close D s old new at k levels y.end y.next
    entries-past {y} g =
        let m = y.next in
        let v = entry-told f g in
        record {
          laws = a.laws;
          closes = a.closes;
          deep = a.deep;
          reached = reached-entry a.reached v.moved;
          entries = a.entries;
          key = v.key;
          tree = v.tree;
          runs = λ lim K d. then (a.runs lim K d) (record { path = v.runs lim K at a.entries (omega (arith, a.deep)) });
          held = λ z. held-entry D s w new c a.entries v.key v.tree (levels - 1) (suc k) n m a.reached.nodes v.moved.nodes v.moved.wrote
              (a.held (omega (arith, v.moved.nodes, v.moved.wrote.same_length))) (v.holds z);
        }

    pub entries-stop : {x : TextError} → r ≡ Err x → ReadsValue (spare (opening c)) D s old new at k levels (Err x)
    entries-stop {x} g =
        record {
          told =
              told-on (EntryRead c D s w new i n (levels - 1)) (ValueRead (spare (opening c)) D s old new at k levels) (EntryEnds c D s i (levels - 1)) (ValueEnds D s at levels)
              old w new (Err x) a.reached.wrote.same_length (λ y z _. cc)
              (λ o h lim K d. (a.runs lim K d).path ∙ h lim K at a.entries (omega (arith, a.deep))) (entry-told f g);
        }

  module _ {p : ℕ} {r : Result Following Faulty} (a : EntriesPast c close D s old w at k levels i n) (f : Follows D s i close r) where
    pub entries_comma : r ≡ Ok (Follow.Comma p) → EntriesAt c close D s old w at k levels p n
    entries_comma g = at_comma f g (λ p. EntriesAt c close D s old w at k levels p n) go
      where
        go : (e : ℕ) → Skipped D s i e → e < length s → get_or s e 0 ≡ code "," → EntriesAt c close D s old w at k levels (e + 1) n
        go e x h z =
            record {
              laws = a.laws;
              closes = a.closes;
              deep = a.deep;
              reached = reached-past a.reached (omega arith) (omega arith) (omega (arith, spare-most (opening c)));
              entries = entry c a.key a.tree a.entries;
              runs = λ lim K d. then (a.runs lim K d) (then (blanks after_value x) (entry_comma at K a.laws h c a.entries a.key z));
              held = a.held;
            }

    pub entries-close : {put : List ℕ} {kind : ℕ} → r ≡ Ok (Follow.Close p) → kind ≡ container_node c → put ≡ put_node w k kind at p n → ReadsValue (spare (opening c)) D s old put at k levels (past p n)
    entries-close {put} {kind} g j t = at-close f g (λ p. put ≡ put_node w k kind at p n → ReadsValue (spare (opening c)) D s old put at k levels (past p n)) go t
      where
        go : (e : ℕ) → Skipped D s i e → e < length s → get_or s e 0 ≡ close → put ≡ put_node w k kind at (e + 1) n → ReadsValue (spare (opening c)) D s old put at k levels (past (e + 1) n)
        go e x h z =
            container-read c (reverse_entries c (entry c a.key a.tree a.entries) (no_entries c)) a.deep
            (reached-past a.reached (omega arith) (omega arith) (omega arith))
            (λ lim K d. then (a.runs lim K d) (then (blanks after_value x) (entry-close at K a.laws h c a.entries a.key (z ∙ a.closes))))
            (λ l w' y. a.held l w' y (no_entries c) n (holds-none D s w' c (levels - 1) n n refl)) j

  pub entries_neither : {r : Result Following Faulty} {v : Faulty} → EntriesPast c close D s old w at k levels i n → Follows D s i close r → r ≡ Err v
      → ReadsValue (spare (opening c)) D s old w at k levels (Err (Fault v.at))
  entries_neither a f g =
      let t = at_neither f g in
      record {
        told = (
          a.reached.wrote.same_length,
          λ lim K d. (then-ends (a.runs lim K d) (then-ends (blanks after_value t.0) (entry_neither at K t.0.solid c a.entries a.key (λ h. ((t.1 h).0, λ z. (t.1 h).1 (z ∙ sym a.closes)))))).path,
        );
      }
