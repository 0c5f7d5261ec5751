-- Names of built-ins: the part of the text between two bounds, and the number of a name, found by looking at one after another.
-- The idea: a name that is none of the first k is as far behind them as its place among the rest.
use Prim.Native.Nat.{ℕ, zero, suc, ◌+◌, ◌-◌, ◌≤◌, ◌<◌}
use mathlib.Core.Path.{◌≡◌, refl, sym, ap, ◌∙◌}
use mathlib.Core.Bool.{Bool, true, false, cond}
use mathlib.Core.List.{List, []}
use native.Mathlib.Omega.{arith}
use lib.ListN.{length, get_or, take, drop}
use lib.Seq.{drop-cons}
use native.Mathlib.Numerals.{add-one}
use Rattle.std.specs.Prelude.{Some, None}
use Rattle.grammar.specs.Notation.{same}
use Rattle.grammar.specs.Serving.TextTable.{joined_texts, bounds_from}
use Rattle.grammar.proofs.TextTables.{part_at}
use Rattle.rules.specs.Types.{built_ins, first_row}
use Rattle.rules.specs.SchemaTable.{place_in, later}
use Rattle.builtins.specs.Names.{if_any}

-- the name of built-in b in a text that holds the names
pub record NameAt (text : List ℕ) (b from to : ℕ) : Type 0 where
  pub rises : from ≤ to
  pub within : to ≤ length text
  pub is : take (to - from) (drop from text) ≡ get_or built_ins (b - 1) []

pub name-at : {text bounds : List ℕ} (b : ℕ) → (text ≡ joined_texts built_ins) × (bounds ≡ bounds_from 0 built_ins) × (0 < b) × (b < first_row) → NameAt text b (get_or bounds (b - 1) 0) (get_or bounds b 0)
name-at b p =
    let i : b ≡ suc (b - 1) = omega (arith, p.2) in
    let q = part_at built_ins (b - 1) (omega (arith, p.2, p.3)) i refl refl in
    rw (p.0, p.1) (record { rises = q.rises; within = q.within; is = q.text })

-- a place behind k others
abbrev behind : ℕ → ℕ → ℕ
behind k zero = 0
behind k (suc p) = k + suc p

behind-none : (p : ℕ) → p ≡ behind 0 p
behind-none zero = refl
behind-none (suc p) = omega arith

behind-later : (k p : ℕ) → behind k (later p) ≡ behind (suc k) p
behind-later k zero = refl
behind-later k (suc p) = omega arith

-- x is none of the names before number b
pub record Unmet (x : List ℕ) (b : ℕ) : Type 0 where
  pub low : 0 < b
  pub high : b ≤ first_row
  pub rest : place_in built_ins x ≡ behind (b - 1) (place_in (drop (b - 1) built_ins) x)

module _ {x : List ℕ} where
  pub unmet_start : Unmet x 1
  unmet_start = record { low = omega arith; high = omega arith; rest = behind-none (place_in built_ins x) }

  module _ {b : ℕ} (u : Unmet x b) where
    pub unmet_end : first_row ≤ b → None ≡ if_any (place_in built_ins x)
    unmet_end h = let z : b ≡ first_row = omega (arith, u.high) in let e : place_in built_ins x ≡ 0 = u.rest ∙ rw z in sym (ap if_any e)

    module _ (h : b < first_row) {y : List ℕ} (p : y ≡ get_or built_ins (b - 1) []) {t : Bool} (q : t ≡ same x y) where
      at_name : place_in built_ins x ≡ behind (b - 1) (cond t 1 (later (place_in (drop (suc (b - 1)) built_ins) x)))
      at_name = u.rest ∙ rw (drop-cons built_ins (b - 1) [] (omega arith), ← p, ← q)

      pub unmet_hit : t ≡ true → Some b ≡ if_any (place_in built_ins x)
      unmet_hit e = let z : b ≡ suc (b - 1) = omega (arith, u.low) in let q : place_in built_ins x ≡ suc (b - 1) = at_name ∙ rw e (add-one (b - 1)) in ap Some z ∙ sym (ap if_any q)

      pub unmet_on : t ≡ false → Unmet x (b + 1)
      unmet_on e = record {
        low = omega arith;
        high = omega arith;
        rest =
            let z : suc (b - 1) ≡ b + 1 - 1 = omega (arith, u.low) in
            at_name ∙ ap (λ (i : Bool). behind (b - 1) (cond i 1 (later (place_in (drop (suc (b - 1)) built_ins) x)))) e
            ∙ behind-later (b - 1) (place_in (drop (suc (b - 1)) built_ins) x) ∙ ap (λ (i : ℕ). behind i (place_in (drop i built_ins) x)) z;
      }
