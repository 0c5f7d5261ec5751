-- What is carried of a line and what the next chunk has of it are the line so far.
use Prim.Native.Nat.{ℕ, zero, suc, ◌<◌, ◌≤◌}
use mathlib.Core.Path.{◌≡◌, refl, sym, ap, subst, ◌∙◌}
use mathlib.Core.List.{List, [], ◌∷◌, ◌++◌}
use lib.ListN.{length, take}
use lib.Seq.{take-length}
use Rattle.std.specs.Prelude.{◌==◌, position, Option, Some, None}
use Rattle.lines.specs.Lines.{before_lf}
use Rattle.lines.proofs.LineLaws.{Ends, line_ends}
use Rattle.console.specs.Serving.Joining.{line_so_far}

module _ (s : List ℕ) {r : Option ℕ} (e : r ≡ position (λ b. b == 10) s) where
  pub lf_found : {n : ℕ} → r ≡ Some n → (n ≡ before_lf s) × (n < length s)
  lf_found f = subst (Ends s) (sym e ∙ f) (line_ends s)

  pub lf_missing : r ≡ None → before_lf s ≡ length s
  lf_missing f = subst (Ends s) (sym e ∙ f) (line_ends s)

module _ (room : ℕ) (line chunk : List ℕ) where
  pub joined_found : {n : ℕ} → n ≡ before_lf chunk → take room (line ++ take n chunk) ≡ line_so_far room line chunk
  unfolding line_so_far
  joined_found e = ap (λ (k : ℕ). take room (line ++ take k chunk)) e

  pub joined_whole : before_lf chunk ≡ length chunk → take room (line ++ chunk) ≡ line_so_far room line chunk
  unfolding line_so_far
  joined_whole e = ap (λ (l : List ℕ). take room (line ++ l)) (sym (ap (λ (k : ℕ). take k chunk) e ∙ take-length chunk))

-- cut twice is cut once
pub cut_again : (n : ℕ) (a b : List ℕ) → take n (take n a ++ b) ≡ take n (a ++ b)
cut_again zero a b = refl
cut_again (suc n) [] b = refl
cut_again (suc n) (x ∷ a) b = ap (λ (l : List ℕ). x ∷ l) (cut_again n a b)
