-- Keys of an object compared with those before them: what each return and each turn of the two loops gives.
-- The idea: the loops go from number to number, and the numbers passed are others than this one, or repeat none.
use Prim.Native.Nat.{ℕ, suc, ◌≤◌, ◌<◌}
use native.Mathlib.Omega.{arith}
use native.Mathlib.Decide.{dec_lt}
use mathlib.Core.Path.{◌≡◌, sym, ap, ◌∙◌, subst}
use mathlib.Core.Bool.{Bool, true, false}
use mathlib.Core.List.{List}
use Rattle.grammar.specs.Notation.{same}
use Rattle.grammar.specs.Serving.Machine.{Dialect}
use Rattle.grammar.proofs.Lists.{same_true, same_false}
use Rattle.std.specs.Prelude.{Some, None, Ok}
use Rattle.sorted.specs.Repeats.{NoneTo}
use Rattle.sorted.proofs.RepeatLaws.{none-start, none_more, none_end}
use Rattle.text.specs.Nodes.{next}
use Rattle.text.specs.Fields.{SameKeys, node_of, Keys, IsNew, NewKey, FindsKey}
use Rattle.text.proofs.FieldKeys.{node-first, node-next, number-within, number-before, number_same, key_at_lem}

-- ---- a key against those before it

-- no number before p means what number m does
pub record NewTo (f : ℕ → List ℕ) (m p : ℕ) : Type 0 where
  pub other : (j : ℕ) → j < p → f j ≡ f m → ⊥

-- the keys before node i are passed
pub record Passed (D : Dialect) (s w : List ℕ) (b a i : ℕ) : Type 0 where
  pub number : ℕ
  pub node : i ≡ node_of w b number
  pub told : (n : ℕ) (f : ℕ → List ℕ) (count m : ℕ) → Keys D s w b n f count → m < count → a ≡ node_of w b m → (number ≤ m) × NewTo f m number

module _ {D : Dialect} {s w : List ℕ} {b a : ℕ} where
  pub passed_start : Passed D s w b a b
  passed_start = record { number = 0; node = node-first w b; told = λ n f count m v h e. (omega arith, record { other = λ j g. absurd (omega arith) }) }

  module _ {i : ℕ} (p : Passed D s w b a i) where
    -- what the comparison with the key at node i says
    module _ {r : Bool} (h : i < a) (g : SameKeys D s w i a r) where
      earlier : (n : ℕ) (f : ℕ → List ℕ) (count m : ℕ) → Keys D s w b n f count → m < count → a ≡ node_of w b m → p.number < m
      earlier n f count m v k e = number-before v p.number m (p.told n f count m v k e).0 (omega (arith, p.node))

      compared : (n : ℕ) (f : ℕ → List ℕ) (count m : ℕ) → Keys D s w b n f count → m < count → a ≡ node_of w b m → r ≡ same (f p.number) (f m)
      compared n f count m v k e =
          let l = earlier n f count m v k e in
          g.told (f p.number) (f m) (key_at_lem v p.number (omega arith) p.node) (key_at_lem v m k e)

      pub passed_hit : r ≡ true → NewKey D s w b a false
      passed_hit t =
          record {
            told = λ n f count m v k e.
                record { other = p.number; before = earlier n f count m v k e; same = same_true (f p.number) (f m) (sym (compared n f count m v k e) ∙ t) };
          }

      pub passed_on : {j : ℕ} → r ≡ false → j ≡ next w i → Passed D s w b a j
      passed_on t q =
          record {
            number = suc p.number;
            node = node-next w b p.number p.node q;
            told = λ n f count m v k e.
                let o = p.told n f count m v k e in
                (earlier n f count m v k e, record { other = λ j l. new f m o.1 (sym (compared n f count m v k e) ∙ t) j l (dec_lt j p.number) });
          }
        where
          new : (f : ℕ → List ℕ) (m : ℕ) → NewTo f m p.number → same (f p.number) (f m) ≡ false → (j : ℕ) → j < suc p.number → Dec (j < p.number) → f j ≡ f m → ⊥
          new f m o x j l (yes y) z = o.other j y z
          new f m o x j l (no y) z = let u : p.number ≡ j = omega arith in same_false (f p.number) (f m) x (ap f u ∙ z)

    -- a key's next is further on
    pub passed_stuck : {j : ℕ} → i < a → j ≡ next w i → j ≤ i → NewKey D s w b a true
    passed_stuck {j} h q l =
        record {
          told = λ n f count m v k e.
              let g = number-before v p.number m (p.told n f count m v k e).0 (omega (arith, p.node)) in
              absurd (omega (arith, v.on p.number (omega arith), p.node, node-next w b p.number p.node q));
        }

    pub passed-end : a ≤ i → NewKey D s w b a true
    passed-end h =
        record {
          told = λ n f count m v k e r.
              let o = p.told n f count m v k e in
              let q = number_same v p.number m o.0 (omega arith) (omega (arith, p.node)) in
              o.1.other r.other (omega (arith, r.before)) r.same;
        }

-- ---- each key in turn

-- the keys before node i repeat none
pub record Turned (D : Dialect) (s w : List ℕ) (b n i : ℕ) : Type 0 where
  pub number : ℕ
  pub node : i ≡ node_of w b number
  pub told : (f : ℕ → List ℕ) (count : ℕ) → Keys D s w b n f count → (number ≤ count) × NoneTo f number

module _ {D : Dialect} {s w : List ℕ} {b n : ℕ} where
  pub turned-start : Turned D s w b n b
  turned-start = record { number = 0; node = node-first w b; told = λ f count v. (omega arith, none-start) }

  module _ {i : ℕ} (p : Turned D s w b n i) where
    within : i < n → (f : ℕ → List ℕ) (count : ℕ) → Keys D s w b n f count → p.number < count
    within h f count v = number-within v p.number (p.told f count v).0 (omega (arith, p.node))

    module _ {r : Bool} (h : i < n) (g : NewKey D s w b i r) where
      pub turned_hit : r ≡ false → FindsKey D s w b n (Ok (Some i))
      turned_hit t = record {
        told = λ f count v.
            let k = within h f count v in (
              record { number = p.number; below = k; node = p.node; repeats = subst (IsNew f p.number) t (g.told n f count p.number v k p.node) },
              (p.told f count v).1,
            );
      }

      pub turned_on : {j : ℕ} → r ≡ true → j ≡ next w i → Turned D s w b n j
      turned_on t q =
          record {
            number = suc p.number;
            node = node-next w b p.number p.node q;
            told = λ f count v.
                let k = within h f count v in
                (k, none_more (p.told f count v).1 (subst (IsNew f p.number) t (g.told n f count p.number v k p.node)));
          }

    pub turned_stuck : {j : ℕ} → i < n → j ≡ next w i → j ≤ i → FindsKey D s w b n (Ok None)
    turned_stuck h q l = record {
      told = λ f count v.
          let k = within h f count v in
          absurd (omega (arith, v.on p.number k, p.node, node-next w b p.number p.node q));
    }

    pub turned-end : n ≤ i → FindsKey D s w b n (Ok None)
    turned-end h = record {
      told = λ f count v.
          let o = p.told f count v in
          let q = number_same v p.number count o.0 (omega arith) (omega (arith, p.node, v.end)) in
          none_end (omega arith) o.1;
    }
