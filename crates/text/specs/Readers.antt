-- Serves contracts: what the readers of values, containers and entries do, by the machine of the grammar.
use Rattle.std.specs.Prelude.{ℕ, suc, ◌+◌, ◌*◌, ◌≤◌, ◌<◌, ◌≡◌, Bool, true, false, cond, List, eqb, length, get_or, drop, Result, Ok, Err}
use Rattle.grammar.specs.Tree.{Json}
use Rattle.grammar.specs.Serving.Machine.{Dialect, Stack, Out, depth, scan}
use Rattle.grammar.specs.Serving.Machine.Control.{AtValue, After}
use Rattle.grammar.specs.Serving.Machine.Out.{fault, deep}
use Rattle.text.specs.declared.reader.Past.{Past}
use Rattle.text.specs.declared.reader.TextError.{TextError}
use Rattle.text.specs.declared.reader.TextError.TheVariants.{Fault, Deep, TooLong}
use Rattle.text.specs.declared.containers.Container.{Container}
use Rattle.text.specs.declared.containers.Container.TheVariants.{Object}
use Rattle.text.specs.Nodes.{node_words, text_bound, next, Holds}
use Rattle.text.specs.Containers.{opening, Entries, KeyOf, no_entries, entry, HoldsEntries, at_entry, around_entry, around_value}

-- words written from node k up to node n, and no others
pub record Wrote (old new : List ℕ) (k n : ℕ) : Type 0 where
  pub same_length : length new ≡ length old
  pub below : (x : ℕ) → x < node_words * k → get_or new x 0 ≡ get_or old x 0
  pub above : (x : ℕ) → node_words * n ≤ x → get_or new x 0 ≡ get_or old x 0

-- From place i and node k to place e and node n: at most one node for every two bytes, and `spare` half nodes more.
pub record Moved (spare : ℕ) (s old new : List ℕ) (i k e n : ℕ) : Type 0 where
  pub on : i < e
  pub within : e ≤ length s
  pub nodes : k < n
  pub few : 2 * n + i ≤ 2 * k + e + spare
  pub wrote : Wrote old new k n

-- Half a node more for any value but an object, by its first byte.
abbrev pub value_spare : ℕ
value_spare = 1

abbrev pub spare : ℕ → ℕ
spare b = cond (eqb b (opening Object)) 0 value_spare

-- an answer: what was read, or how the machine ends; the words keep their number
abbrev pub Told : (ℕ → ℕ → Type 0) → (Out → Type 0) → (old new : List ℕ) → Result Past TextError → Type 0
Told Was Ends old new (Ok p) = Was p.end p.next
Told Was Ends old new (Err (Fault e)) = (length new ≡ length old) × Ends (fault e)
Told Was Ends old new (Err (Deep e)) = (length new ≡ length old) × Ends (deep e)
Told Was Ends old new (Err TooLong) = ⊥

-- A value was read, with `levels` levels for it and what is inside it: its tree, the machine's run, and the nodes, where they fit.
pub record ValueRead (spare : ℕ) (D : Dialect) (s old new : List ℕ) (i k levels e n : ℕ) : Type 0 where
  pub moved : Moved spare s old new i k e n
  pub tree : Json
  pub runs : (lim : ℕ) (K : Stack) → depth K + levels ≡ lim → scan D lim AtValue K i (drop i s) ≡ scan D lim (After tree) K e (drop e s)
  pub holds : node_words * n ≤ length new → Holds D s new tree levels k
  pub ends : node_words * n ≤ length new → next new k ≡ n

-- the machine ends with this answer, whatever the brackets around
abbrev pub ValueEnds : Dialect → List ℕ → ℕ → ℕ → Out → Type 0
ValueEnds D s i levels o = (lim : ℕ) (K : Stack) → depth K + levels ≡ lim → scan D lim AtValue K i (drop i s) ≡ o

pub record ReadsValue (spare : ℕ) (D : Dialect) (s old new : List ℕ) (i k levels : ℕ) (r : Result Past TextError) : Type 0 where
  pub told : Told (ValueRead spare D s old new i k levels) (ValueEnds D s i levels) old new r

-- a value without brackets wants no level
pub record ReadsLeaf (D : Dialect) (s old new : List ℕ) (i k : ℕ) (r : Result Past TextError) : Type 0 where
  pub told : (levels : ℕ) → ReadsValue value_spare D s old new i k levels r

-- an entry was read: its key, its value's tree, the machine's run inside the container, and the nodes, where they fit
pub record EntryRead (c : Container) (D : Dialect) (s old new : List ℕ) (i k levels e n : ℕ) : Type 0 where
  pub moved : Moved (spare (opening c)) s old new i k e n
  pub key : KeyOf c
  pub tree : Json
  pub runs : (lim : ℕ) (K : Stack) (o : ℕ) (es : Entries c) → suc (depth K) + levels ≡ lim
      → scan D lim (at_entry D c o es) (around_entry c o es K) i (drop i s) ≡ scan D lim (After tree) (around_value c o es key K) e (drop e s)
  pub holds : node_words * n ≤ length new → HoldsEntries D s new c (entry c key tree (no_entries c)) levels k n

abbrev pub EntryEnds : Container → Dialect → List ℕ → ℕ → ℕ → Out → Type 0
EntryEnds c D s i levels x =
    (lim : ℕ) (K : Stack) (o : ℕ) (es : Entries c) → suc (depth K) + levels ≡ lim → scan D lim (at_entry D c o es) (around_entry c o es K) i (drop i s) ≡ x

pub record ReadsEntry (c : Container) (D : Dialect) (s old new : List ℕ) (i k levels : ℕ) (r : Result Past TextError) : Type 0 where
  pub told : Told (EntryRead c D s old new i k levels) (EntryEnds c D s i levels) old new r

-- where a reader may begin: the places of the text fit a word, and there are no more nodes than bytes so far
pub record Ready (s : List ℕ) (i k : ℕ) : Type 0 where
  pub short : length s < text_bound
  pub within : i ≤ length s
  pub few : k ≤ i

-- at the bracket that opens a container
pub record Opens (c : Container) (s : List ℕ) (i k : ℕ) : Type 0 where
  pub ready : Ready s i k
  pub here : i < length s
  pub byte : get_or s i 0 ≡ opening c

-- the byte b stands at place i, or not
abbrev pub StandsTold : List ℕ → ℕ → ℕ → Bool → Type 0
StandsTold s i b true = (i < length s) × (get_or s i 0 ≡ b)
StandsTold s i b false = i < length s → get_or s i 0 ≡ b → ⊥

pub record Stands (s : List ℕ) (i b : ℕ) (r : Bool) : Type 0 where
  pub told : StandsTold s i b r
