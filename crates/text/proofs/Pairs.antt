-- Reading a member, a key and its value: one law for each return of `read_member`, and what its calls ask.
-- The key's node is written after the value's nodes; it lies before them, so they stay.
use Prim.Native.Nat.{ℕ, suc, ◌+◌, ◌*◌, ◌^◌, ◌≤◌, ◌<◌}
use native.Mathlib.Numerals.{add-one}
use native.Mathlib.Omega.{arith}
use mathlib.Core.Path.{◌≡◌, refl, sym, ◌∙◌, subst}
use mathlib.Core.List.{List}
use lib.ListN.{length}
use Rattle.grammar.specs.Tree.{Json, Fields.no_fields, Fields.field}
use Rattle.grammar.specs.Serving.Machine.{Dialect, Stack.in_object}
use Rattle.strings.specs.Strings.{Means}
use Rattle.tokens.specs.Tokens.{key_node, KeyRuns, KeyTold, ReadsKey}
use Rattle.text.specs.Nodes.{node_words, put_node, next, Holds, HoldsFields}
use Rattle.text.specs.Readers.{value_spare, ValueRead, ValueEnds, ReadsValue, EntryRead, EntryEnds, ReadsEntry, Ready}
use Rattle.std.specs.Prelude.{Result, Ok, Err}
use Rattle.strings.specs.declared.chars.Fault.{Fault as Faulty}
use Rattle.text.specs.declared.reader.Past.{Past}
use Rattle.text.specs.declared.reader.TextError.{TextError}
use Rattle.text.specs.declared.reader.TextError.TheVariants.{Fault}
use Rattle.text.specs.declared.containers.Container.TheVariants.{Object}
use Rattle.tokens.specs.declared.separators.Key.{Key}
use Rattle.text.proofs.Frames.{Put, put-wrote, put-there, Agree, word_same, frame}
use Rattle.text.proofs.Inside.{Read, past, value-told, told-on, wrote-put}

-- the key's node and the value's
pair_held : (D : Dialect) (s w new : List ℕ) (a e : ℕ) (cs : List ℕ) (v : Json) (left k n : ℕ) → Put new k (key_node s a e) a e n → Means D s a e cs
    → suc k < n → Agree w new (suc k) n → Holds D s w v left (suc k) → next w (suc k) ≡ n → HoldsFields D s new (field a e cs v no_fields) left k n
pair_held D s w new a e cs v left k n p m h q f g =
    let z : next new (suc k) ≡ n = word_same D s w new (suc k) n 3 h (omega arith) q ∙ g in
    (omega arith, p.is, m, frame D s w new v left (suc k) (λ x c d. q x c (omega arith)) f, p.goes ∙ sym z, p.goes)

-- the places of a key
record KeyPlaces (s : List ℕ) (i a e p : ℕ) : Type 0 where
  on : i ≤ a
  wide : a + 2 ≤ e
  past : e < p
  within : p ≤ length s

module _ {D : Dialect} {s : List ℕ} {i : ℕ} {r : Result Key Faulty} {key : Key} (f : ReadsKey D s i r) (g : r ≡ Ok key) where
  abbrev a : ℕ
  a = key.start

  abbrev e : ℕ
  e = key.end

  abbrev p : ℕ
  p = key.past

  key-told : (cs : List ℕ) × KeyRuns D s i a e p cs × (key.kind ≡ key_node s a e)
  key-told = subst (λ (x : Result Key Faulty). KeyTold D s i x) g f.told

  key_places : KeyPlaces s i a e p
  key_places = let t = key-told.1 in record { on = t.on; wide = t.means.wide; past = t.past; within = t.within }

  pub key-ready : {k : ℕ} → Ready s i k → Ready s p (k + 1)
  key-ready x = let t = key_places in record { short = x.short; within = t.within; few = omega arith }

  module _ {old w : List ℕ} {k left : ℕ} {y : Read} where
    pub pair_fits : {v : Past} → Ready s i k → ReadsValue value_spare D s old w p (k + 1) left y → y ≡ Ok v → (k < 2 ^ 32) × (a < 2 ^ 32) × (e < 2 ^ 32) × (v.next < 2 ^ 32)
    pair_fits x v h = let t = key_places in let u = (value-told v h).moved in omega arith

    pub pair_read : {put : List ℕ} {z : Past} → ReadsValue value_spare D s old w p (k + 1) left y → y ≡ Ok z → put ≡ put_node w k key.kind a e z.next → ReadsEntry Object D s old put i k left (past z.end z.next)
    pair_read {z = z} v h eq =
        let kind = key.kind in
        let q = z.end in
        let m = z.next in
        let t = key-told in
        let l = key_places in
        let x : ValueRead value_spare D s old w p (suc k) left q m = subst (λ (u : ℕ). ValueRead value_spare D s old w p u left q m) (add-one k) (value-told v h) in
        let u = put-wrote w k kind a e m in
        let new : List ℕ = put_node w k kind a e m in
        let n : k < m = omega (arith, x.moved.nodes) in
        let put : node_words * m ≤ length w → Put new k (key_node s a e) a e m = λ z. subst (λ (j : ℕ). Put new k j a e m) t.2 (put-there w k kind a e m (omega arith)) in
        subst (λ (j : List ℕ). ReadsEntry Object D s old j i k left (past q m)) (sym eq)
        record {
          told =
              record {
                moved =
                    record {
                      on = omega (arith, x.moved.on);
                      within = x.moved.within;
                      nodes = n;
                      few = omega (arith, x.moved.few);
                      wrote = wrote-put kind a e n x.moved.wrote;
                    };
                key = (a, e, t.0);
                tree = x.tree;
                runs = λ lim K o fs d. t.1.runs lim o fs K ∙ x.runs lim (in_object o fs a e t.0 K) d;
                holds = λ z.
                    let z' : node_words * m ≤ length w = omega (arith, u.same_length) in
                    pair_held D s w new a e t.0 x.tree left k m (put z') t.1.means x.moved.nodes (λ j c d. u.above j c) (x.holds z') (x.ends z');
              };
        }

    pub pair-stop : {x : TextError} → ReadsValue value_spare D s old w p (k + 1) left y → y ≡ Err x → ReadsEntry Object D s old w i k left (Err x)
    pair-stop {x} v h =
        let t = key-told in
        record {
          told =
              told-on (ValueRead value_spare D s old w p (k + 1) left) (EntryRead Object D s old w i k left) (ValueEnds D s p left) (EntryEnds Object D s i left)
              old old w (Err x) refl (λ z g _. cc) (λ _ f lim K o fs d. t.1.runs lim o fs K ∙ f lim (in_object o fs a e t.0 K) d) (value-told v h);
        }

-- no key
pub key-stop : {D : Dialect} {s w : List ℕ} {i k left : ℕ} {r : Result Key Faulty} {v : Faulty} → ReadsKey D s i r → r ≡ Err v → ReadsEntry Object D s w w i k left (Err (Fault v.at))
key-stop {D} {s} {i = i} f g = let t = subst (λ (x : Result Key Faulty). KeyTold D s i x) g f.told in record { told = (refl, λ lim K o fs d. t o fs lim K) }
