-- The command that a name finds: a row of kind 9 of that name, and none where there is none.
-- The idea: the search from row r on passes over rows that are no command of that name.
use Prim.Native.Nat.{ℕ, zero, suc, ◌+◌, ◌≤◌}
use native.Mathlib.Nat.{eq-or-lt_of_le}
use native.Mathlib.Omega.{arith}
use mathlib.Core.Path.{◌≡◌, refl}
use mathlib.Core.Bool.{Bool, true, false, cond, ◌&&◌}
use mathlib.Core.Logic.{⊎_elim}
use mathlib.Core.List.{List}
use mathlib.Core.Option.{none, some}
use borrow.Author.Tests.{eqb-true, eq-eqb}
use Rattle.rules.specs.Kinds.{command_kind}
use Rattle.rules.specs.Names.{same_name}
use Rattle.rules.specs.Rows.{row_count, kind, is_command, name_of}
use Rattle.rules.specs.Envelope.{Names}
use Rattle.rules.specs.Serving.Answers.{command_from}
use Rattle.rules.proofs.Lists.{clash, and_left, and_right, and_of, same_true, same_refl}

module _ (S T x : List ℕ) where
  pub command-found : (n r c : ℕ) → r + n ≡ row_count T → command_from S T x r n ≡ some c → Names S T x c
  command-found zero r c b e = let z : ◌≡◌ {A = ℕ} 0 1 = cc in absurd (omega arith)
  command-found (suc n) r c b e = go (is_command T r && same_name (name_of S T r) x) refl e (command-found n (suc r) c)
    where
      here : r ≡ c → (is_command T r && same_name (name_of S T r) x) ≡ true → Names S T x c
      here q t =
          rw (← q)
          (record {
            row = omega arith;
            command = eqb-true (kind T r) command_kind (and_left (is_command T r) (same_name (name_of S T r) x) t);
            name_is = same_true (name_of S T r) x (and_right (is_command T r) (same_name (name_of S T r) x) t);
          })

      go : (t : Bool) → (is_command T r && same_name (name_of S T r) x) ≡ t → cond t (some r) (command_from S T x (suc r) n) ≡ some c
          → (suc r + n ≡ row_count T → command_from S T x (suc r) n ≡ some c → Names S T x c) → Names S T x c
      go true t h k = here (let z : r ≡ c = cc in z) t
      go false t h k = k (omega arith) h

  pub command_missed : (n r : ℕ) → r + n ≡ row_count T → command_from S T x r n ≡ none → (c : ℕ) → r ≤ c → Names S T x c → ⊥
  command_missed zero r b e c h m = omega (arith, m.row)
  command_missed (suc n) r b e c h m = go (is_command T r && same_name (name_of S T r) x) refl e (command_missed n (suc r))
    where
      passed : r ≡ c → (is_command T r && same_name (name_of S T r) x) ≡ true
      passed q =
          rw q
          (and_of (is_command T c) (same_name (name_of S T c) x) (eq-eqb (kind T c) command_kind m.command) (rw m.name_is (same_refl x)))

      go : (t : Bool) → (is_command T r && same_name (name_of S T r) x) ≡ t → cond t (some r) (command_from S T x (suc r) n) ≡ none
          → (suc r + n ≡ row_count T → command_from S T x (suc r) n ≡ none → (c : ℕ) → suc r ≤ c → Names S T x c → ⊥) → ⊥
      go true t g k = let z : ◌≡◌ {A = ℕ} 0 1 = cc in omega arith
      go false t g k = ⊎_elim (λ q. clash (passed q) t) (λ l. k (omega arith) g c l m) (eq-or-lt_of_le h)
