-- Reading a value: one law for each return of `stands`, `scalar_node`, `read_at` and `read_value`, and what their calls ask.
-- Blanks before a value belong to its run; the byte that it begins with says what it is and how many nodes it may have.
use Prim.Native.Nat.{ℕ, ◌+◌, ◌*◌, ◌^◌, ◌≤◌, ◌<◌}
use native.Mathlib.Numerals.{add-one}
use native.Mathlib.Omega.{arith}
use native.Mathlib.Decide.{dec_lt}
use mathlib.Core.Path.{◌≡◌, refl, sym, ◌∙◌, subst}
use mathlib.Core.Bool.{Bool, true, false}
use mathlib.Core.List.{List}
use lib.Dec.{eqb}
use lib.ListN.{length, get_or, get_or-eq_default}
use borrow.Author.Tests.{eqb-true, eqb-false, ne_eqb}
use Rattle.grammar.specs.Tree.{Json.leaf}
use Rattle.grammar.specs.Serving.Machine.{Dialect, Stack.in_array}
use Rattle.grammar.specs.Serving.Machine.Control.{AtValue}
use Rattle.tokens.specs.Tokens.{scalar_node, Skips.at_value, Solid, Skipped, ScalarTold, ReadsScalar, Unbracketed}
use Rattle.text.specs.Nodes.{node_words, put_node}
use Rattle.text.specs.Containers.{opening, OpeningTold, OpeningAt}
use Rattle.text.specs.Readers.{StandsTold, Stands, Wrote, value_spare, spare, ValueRead, ValueEnds, ReadsValue, EntryRead, EntryEnds, ReadsEntry, ReadsLeaf, Ready, Opens}
use Rattle.std.specs.Prelude.{Option, Some, None, Result, Ok, Err}
use Rattle.strings.specs.declared.chars.Fault.{Fault as Faulty}
use Rattle.text.specs.declared.reader.TextError.TheVariants.{Fault}
use Rattle.text.specs.declared.containers.Container.{Container}
use Rattle.text.specs.declared.containers.Container.TheVariants.{Array, Object}
use Rattle.tokens.specs.declared.scalars.Scalar.{Scalar}
use Rattle.text.proofs.Frames.{Put, put-wrote, put-there}
use Rattle.text.proofs.Inside.{Read, past, told-on, spare-most}

-- a byte that stands at a place
pub stands-byte : (s : List ℕ) (i b : ℕ) → i < length s → Stands s i b (eqb (get_or s i 0) b)
stands-byte s i b h = go (eqb (get_or s i 0) b) refl
  where
    go : (t : Bool) → eqb (get_or s i 0) b ≡ t → Stands s i b t
    go true e = record { told = (h, eqb-true (get_or s i 0) b e) }
    go false e = record { told = λ _. eqb-false (get_or s i 0) b e }

module _ {s : List ℕ} {i b : ℕ} {r : Bool} (f : Stands s i b r) where
  pub stood : r ≡ true → (i < length s) × (get_or s i 0 ≡ b)
  stood e = subst (λ (t : Bool). StandsTold s i b t) e f.told

  pub missed : r ≡ false → i < length s → get_or s i 0 ≡ b → ⊥
  missed e = subst (λ (t : Bool). StandsTold s i b t) e f.told

-- a value without brackets
module _ {D : Dialect} {s : List ℕ} {i : ℕ} {r : Result Scalar Faulty} (f : ReadsScalar D s i r) where
  pub leaf-fits : {k n : ℕ} {v : Scalar} → Ready s i k → r ≡ Ok v → n ≤ k + 2 → (k < 2 ^ 32) × (i < 2 ^ 32) × (v.end < 2 ^ 32) × (n < 2 ^ 32)
  leaf-fits x g h = let t = subst (λ (y : Result Scalar Faulty). ScalarTold D s i y) g f.told in let l = t.1.within in omega arith

  pub leaf-read : {w new : List ℕ} {k : ℕ} {y : Scalar} → r ≡ Ok y → new ≡ put_node w k y.kind i y.end (k + 1) → ReadsLeaf D s w new i k (past y.end (k + 1))
  leaf-read {w} {k = k} {y = y} g q =
      let kind = y.kind in
      let e = y.end in
      let t = subst (λ (y : Result Scalar Faulty). ScalarTold D s i y) g f.told in
      let v = t.0 in
      let new : List ℕ = put_node w k kind i e (k + 1) in
      let u = put-wrote w k kind i e (k + 1) in
      let put : node_words * (k + 1) ≤ length new → Put new k (scalar_node s i e v) i e (k + 1) =
      λ z. subst (λ (j : ℕ). Put new k j i e (k + 1)) t.2 (put-there w k kind i e (k + 1) (omega (arith, u.same_length))) in
      subst (λ (x : List ℕ). ReadsLeaf D s w x i k (past e (k + 1))) (sym q)
      record {
        told = λ levels.
            record {
              told =
                  record {
                    moved =
                        record {
                          on = t.1.on;
                          within = t.1.within;
                          nodes = omega arith;
                          few = omega (arith, t.1.on);
                          wrote = subst (λ (n : ℕ). Wrote w new k n) (sym (add-one k)) u;
                        };
                    tree = leaf i e v;
                    runs = λ lim K d. t.1.runs lim K;
                    holds = λ z. ((put z).is, (put z).goes ∙ add-one k, t.1.spelled);
                    ends = λ z. (put z).goes;
                  };
            };
      }

  pub leaf-stop : {w : List ℕ} {k : ℕ} {v : Faulty} → r ≡ Err v → ReadsLeaf D s w w i k (Err (Fault v.at))
  leaf-stop g = let t = subst (λ (y : Result Scalar Faulty). ScalarTold D s i y) g f.told in record { told = λ levels. record { told = (refl, λ lim K d. t lim K) } }

-- what opens at a place, once it is known which it is
module _ {s : List ℕ} {p : ℕ} {r : Option Container} (f : OpeningAt s p r) where
  module _ {c : Container} (e : r ≡ Some c) where
    bracket : (p < length s) × (get_or s p 0 ≡ opening c)
    bracket = subst (λ (t : Option Container). OpeningTold s p t) e f.told

    pub opens : {k : ℕ} → Ready s p k → Opens c s p k
    opens y = record { ready = y; here = bracket.0; byte = bracket.1 }

    pub container-at : {D : Dialect} {old new : List ℕ} {k levels : ℕ} {v : Read} → ReadsValue (spare (opening c)) D s old new p k levels v
        → ReadsValue (spare (get_or s p 0)) D s old new p k levels v
    container-at {D} {old} {new} {k} {levels} {v} h = subst (λ (b : ℕ). ReadsValue (spare b) D s old new p k levels v) (sym bracket.1) h

  module _ (e : r ≡ None) where
    other : (p < length s → get_or s p 0 ≡ opening Array → ⊥) × (p < length s → get_or s p 0 ≡ opening Object → ⊥)
    other = subst (λ (t : Option Container). OpeningTold s p t) e f.told

    pub unbracketed : {D : Dialect} → Solid D s p → Unbracketed D s p
    unbracketed x = record { solid = x; no_array = other.0; no_object = other.1 }

    no_object : get_or s p 0 ≡ opening Object → ⊥
    no_object z = go (dec_lt p (length s))
      where
        go : Dec (p < length s) → ⊥
        go (yes h) = other.1 h z
        go (no h) = absurd (omega (arith, get_or-eq_default s 0 {n = p} (omega arith)))

    pub scalar-at : {D : Dialect} {old new : List ℕ} {k levels : ℕ} {v : Read} → ReadsLeaf D s old new p k v → ReadsValue (spare (get_or s p 0)) D s old new p k levels v
    scalar-at {levels = levels} h = rw (ne_eqb (get_or s p 0) (opening Object) no_object) (h.told levels)

-- after blanks
module _ {D : Dialect} {s : List ℕ} {i p : ℕ} (x : Skipped D s i p) where
  pub ready-after : {k : ℕ} → Ready s i k → Ready s p k
  ready-after y = record { short = y.short; within = x.within y.within; few = omega (arith, x.on, y.few) }

  pub value_after : {old new : List ℕ} {k levels : ℕ} {r : Read} → ReadsValue (spare (get_or s p 0)) D s old new p k levels r → ReadsValue value_spare D s old new i k levels r
  value_after {old} {new} {k} {levels} {r} v =
      record {
        told =
            told-on (ValueRead (spare (get_or s p 0)) D s old new p k levels) (ValueRead value_spare D s old new i k levels) (ValueEnds D s p levels) (ValueEnds D s i levels) old old new r refl
            (λ y _ h. record {
              moved =
                  record {
                    on = omega (arith, x.on, h.moved.on);
                    within = h.moved.within;
                    nodes = h.moved.nodes;
                    few = omega (arith, x.on, h.moved.few, spare-most (get_or s p 0));
                    wrote = h.moved.wrote;
                  };
              tree = h.tree;
              runs = λ lim K d. x.runs lim AtValue K at_value ∙ h.runs lim K d;
              holds = h.holds;
              ends = h.ends;
            })
            (λ o f lim K d. x.runs lim AtValue K at_value ∙ f lim K d) v.told;
      }

-- a value is an entry of an array
pub value-entry : {D : Dialect} {s old new : List ℕ} {i k levels : ℕ} {r : Read} → ReadsValue value_spare D s old new i k levels r → ReadsEntry Array D s old new i k levels r
value-entry {D} {s} {old} {new} {i} {k} {levels} {r} v =
    record {
      told =
          told-on (ValueRead value_spare D s old new i k levels) (EntryRead Array D s old new i k levels) (ValueEnds D s i levels) (EntryEnds Array D s i levels) old old new r refl
          (λ y _ h. record {
            moved = h.moved;
            key = tt;
            tree = h.tree;
            runs = λ lim K o es d. h.runs lim (in_array o es K) d;
            holds = λ z. (h.moved.nodes, h.holds z, h.ends z);
          })
          (λ x f lim K o es d. f lim (in_array o es K) d) v.told;
    }
