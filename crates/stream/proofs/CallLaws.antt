-- A call by what its first byte gives: a byte that is passed over or kept leaves the rest to the call from there, any other ends the call.
-- From the definitions; so many bytes taken before come on top.
use Prim.Native.Nat.{ℕ, suc, ◌+◌}
use native.Mathlib.Omega.{arith}
use mathlib.Core.Path.{◌≡◌, ap}
use mathlib.Core.Bool.{Bool}
use mathlib.Core.List.{List, ◌∷◌}
use lib.ListN.{set}
use Rattle.std.specs.Prelude.{Some, None, Ok, Err}
use Rattle.rules.specs.declared.MessageRefusal.{MessageRefusal}
use Rattle.stream.specs.Serving.Modes.{Mode}
use Rattle.stream.specs.Serving.Feeding.{Standing, length_of, Outcome, Outcome.pass, Outcome.keep, Outcome.ends, Outcome.refuse, Step, act, step, Call, later, stop, call}
use Rattle.stream.specs.Serving.Contracts.{laters}
use Rattle.stream.proofs.Bytes.{Gives}

-- the rest of a call, after a step
abbrev pub called : ℕ → Step → List ℕ → Call
called limit t l = elim t.said as (λ _. Call) [ Ok None ↦ later (call limit t.standing t.buffer l) | Ok (Some n) ↦ stop t | Err x ↦ stop t ]

module _ {limit : ℕ} {s : Standing} {b : ℕ} (buf l : List ℕ) where
  goes : {o : Outcome} → Gives limit s b o → call limit s buf (b ∷ l) ≡ called limit (act o (length_of s) buf b) l
  unfolding call step
  goes g = ap (λ (o : Outcome). called limit (act o (length_of s) buf b) l) g.told

  pub call-pass : {t : Standing} → Gives limit s b (pass t) → call limit s buf (b ∷ l) ≡ later (call limit t buf l)
  call-pass g = goes g

  pub call-keep : {md : Mode} {fs : List Bool} → Gives limit s b (keep md fs) → call limit s buf (b ∷ l) ≡ later (call limit (Standing.inside md fs (suc (length_of s))) (set buf (length_of s) b) l)
  call-keep g = goes g

  pub call_ends : Gives limit s b ends
      → call limit s buf (b ∷ l) ≡ record { said = Ok (Some (suc (length_of s))); taken = 1; standing = Standing.between; buffer = set buf (length_of s) b }
  call_ends g = goes g

  pub call-refuse : {x : MessageRefusal} {t : Standing} → Gives limit s b (refuse x t) → call limit s buf (b ∷ l) ≡ record { said = Err x; taken = 1; standing = t; buffer = buf }
  call-refuse g = goes g

-- so many bytes were taken before
pub laters-none : (c : Call) → laters 0 c ≡ c
laters-none c = let d : 0 + c.taken ≡ c.taken = omega arith in ap (λ (t : ℕ). record { said = c.said; taken = t; standing = c.standing; buffer = c.buffer }) d

pub laters-add : (a k n : ℕ) (c : Call) → a + k ≡ n → laters a (laters k c) ≡ laters n c
laters-add a k n c e = let d : a + (k + c.taken) ≡ n + c.taken = omega arith in ap (λ (t : ℕ). record { said = c.said; taken = t; standing = c.standing; buffer = c.buffer }) d

pub laters-later : (a n : ℕ) (c : Call) → suc a ≡ n → laters a (later c) ≡ laters n c
laters-later a n c e = let d : a + suc c.taken ≡ n + c.taken = omega arith in ap (λ (t : ℕ). record { said = c.said; taken = t; standing = c.standing; buffer = c.buffer }) d
