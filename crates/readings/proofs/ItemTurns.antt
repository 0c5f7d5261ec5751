-- The elements of an array, read in turn: what each return and each turn of the loop gives.
-- The idea: whatever is read from here on is, with what was read before, what is read from the first element on.
use Prim.Native.Nat.{ℕ, suc, ◌+◌, ◌*◌, ◌≤◌, ◌<◌}
use mathlib.Core.Path.{◌≡◌, refl, ◌∙◌, subst₂}
use mathlib.Core.Bool.{Bool, true}
use mathlib.Core.List.{List}
use native.Mathlib.Numerals.{add-one}
use native.Mathlib.Omega.{arith}
use lib.ListN.{length}
use Rattle.grammar.specs.Tree.{Items}
use Rattle.grammar.specs.Tree.Items.{no_items, item}
use Rattle.grammar.specs.Keys.{keys_once, keys_once_i}
use Rattle.grammar.specs.Serving.Machine.Message.{message}
use Rattle.rules.proofs.Lists.{and_left, and_right}
use Rattle.children.specs.Index.{IndexedTable}
use Rattle.rules.specs.Serving.ReadingOf.{items_reading, reading_of}
use Rattle.text.specs.Nodes.{next, HoldsItems}
use Rattle.text.proofs.KeyLaws.{goes_on}
use Rattle.readings.specs.Records.{ReadTold}
use Rattle.readings.specs.Readers.{Within, ReadsValue, ItemsRead, ReadsItems}
use Rattle.readings.specs.declared.readings.Count.{Count}
use Rattle.readings.specs.declared.readings.Count.TheVariants.{Records, Nothing}
use Rattle.readings.proofs.RecordLaws.{told_empty, told-then, told_none}

module _ (S T m w : List ℕ) {ix : List ℕ} {t left : ℕ} {passes : Bool} where
  -- no element is left
  pub items-end : (now : List ℕ) {i e c : ℕ} → i ≡ e → ItemsRead S T m w ix now now i e t passes left c (Records c)
  items-end now {i} {e} {c} z = record { told = λ js l o h once q. go js l h }
    where
      go : (js : Items) (l : ℕ) → HoldsItems message m w js l i e → ReadTold now now c (items_reading passes S T js t) (Records c)
      go no_items l h = told_empty now c
      go (item j js) l h = absurd (omega (arith, h.0))

  pub items-past : (now : List ℕ) {i e c : ℕ} → e ≤ i → (i ≡ e → ⊥) → ItemsRead S T m w ix now now i e t passes left c Nothing
  items-past now {i} {e} {c} u n = record { told = λ js l o h once q. go js l h }
    where
      go : (js : Items) (l : ℕ) → HoldsItems message m w js l i e → ReadTold now now c (items_reading passes S T js t) Nothing
      go no_items l h = absurd (n h)
      go (item j js) l h = absurd (omega (arith, h.0))

module _ {S T m w ix old mid : List ℕ} {i t left c : ℕ} {passes : Bool} {v : Count} (g : ReadsValue S T m w ix old mid i t 0 passes left c v) {e : ℕ} (u : i < e) where
  -- the first element that is left has no reading
  pub items-none : v ≡ Nothing → ItemsRead S T m w ix old mid i e t passes left c Nothing
  items-none z = record { told = λ js l o h once q. go js l o h once q }
    where
      go : (js : Items) (l : ℕ) → IndexedTable S T ix → HoldsItems message m w js l i e → keys_once_i js ≡ true → l ≤ left → ReadTold old mid c (items_reading passes S T js t) Nothing
      go no_items l o h once q = absurd (omega (arith, h))
      go (item j js) l o h once q = told_none old mid c (reading_of passes S T j t 0) (items_reading passes S T js t) (rw z at (g.reads.told j l o h.1 (and_left (keys_once j) (keys_once_i js) once) q))

  module _ {y : ℕ} (p : y ≡ next w i) where
    pub items_stuck : y ≤ i → ItemsRead S T m w ix old mid i e t passes left c Nothing
    items_stuck z = record { told = λ js l o h once q. absurd (go js l h) }
      where
        go : (js : Items) (l : ℕ) → HoldsItems message m w js l i e → ⊥
        go no_items l h = omega (arith, h)
        go (item j js) l h = omega (arith, goes_on message m w j l i h.1)

    module _ {d : ℕ} (z : v ≡ Records d) where
      pub items-on : (new : List ℕ) (r : Count) → ItemsRead S T m w ix mid new y e t passes left d r → ItemsRead S T m w ix old new i e t passes left c r
      items-on new r k = record { told = λ js l o h once q. go js l o h once q }
        where
          go : (js : Items) (l : ℕ) → IndexedTable S T ix → HoldsItems message m w js l i e → keys_once_i js ≡ true → l ≤ left → ReadTold old new c (items_reading passes S T js t) r
          go no_items l o h once q = absurd (omega (arith, h))
          go (item j js) l o h once q =
              told-then old mid new c d (reading_of passes S T j t 0) (items_reading passes S T js t) r (rw z at (g.reads.told j l o h.1 (and_left (keys_once j) (keys_once_i js) once) q))
              (k.told js l o (rw p h.2) (and_right (keys_once j) (keys_once_i js) once) q)

      pub few-items : i < y → d ≤ 2 * y
      few-items n = few (rw z at g.within)
        where
          few : Within w i (Records d) → d ≤ 2 * y
          few x = omega arith

-- the loop: what was read from node k + 1 on to node i, after n records, left c records
pub record ItemsSoFar (S T m w ix old now : List ℕ) (k e t : ℕ) (passes : Bool) (left n i c : ℕ) : Type 0 where
  pub few : c ≤ 2 * i
  pub kept : length now ≡ length old
  pub onward : (new : List ℕ) (r : Count) → ItemsRead S T m w ix now new i e t passes left c r → ItemsRead S T m w ix old new (k + 1) e t passes left n r

pub items-start : (S T m w ix old : List ℕ) {k e t left n : ℕ} {passes : Bool} → n ≤ 2 * suc k → ItemsSoFar S T m w ix old old k e t passes left n (k + 1) n
items-start S T m w ix old u = record { few = omega arith; kept = refl; onward = λ new r h. h }

module _ {S T m w ix old now : List ℕ} {k e t left n i c : ℕ} {passes : Bool} (v : ItemsSoFar S T m w ix old now k e t passes left n i c) (p : e ≡ next w k) where
  -- from the first element on
  from_first : (new : List ℕ) (r : Count) → ItemsRead S T m w ix now new i e t passes left c r → ItemsRead S T m w ix old new (suc k) (next w k) t passes left n r
  from_first new r h = subst₂ (λ (a b : ℕ). ItemsRead S T m w ix old new a b t passes left n r) (add-one k) p (v.onward new r h)

  pub items_fail : {new : List ℕ} → ItemsRead S T m w ix now new i e t passes left c Nothing → ReadsItems S T m w ix old new k t passes left n Nothing
  items_fail {new} h = record { within = tt; reads = from_first new Nothing h }

  pub items-done : i ≡ e → ReadsItems S T m w ix old now k t passes left n (Records c)
  items-done z = record { within = omega (arith, v.few); reads = from_first now (Records c) (items-end S T m w now z) }

  pub items-again : {mid : List ℕ} {a : Count} → ReadsValue S T m w ix now mid i t 0 passes left c a → length mid ≡ length now → i < e → {y : ℕ} → y ≡ next w i → i < y
      → {d : ℕ} → a ≡ Records d → ItemsSoFar S T m w ix old mid k e t passes left n y d
  items-again {mid} g q u {y} o x {d} z = record {
    few = few-items g u o z x;
    kept = q ∙ v.kept;
    onward = λ new r h. v.onward new r (items-on g u o z new r h);
  }
