-- What a byte gives where the reader stands, rule by rule.
-- Each by the tests that lead to it; a bracket is no blank and does not clear.
use Prim.Native.Nat.{ℕ, ◌≤◌, ◌<◌}
use Prim.Native.Char.{code}
use mathlib.Core.Path.{◌≡◌, refl, sym, subst}
use mathlib.Core.Bool.{Bool, true, false, ◌||◌}
use mathlib.Core.List.{List, [], ◌∷◌}
use lib.Dec.{eqb}
use borrow.Author.Tests.{lt-ltb, le-ltb, eqb-true}
use Rattle.grammar.specs.Lexis.{blank}
use Rattle.grammar.proofs.Booleans.{either}
use Rattle.rules.specs.declared.MessageRefusal.TheVariants.{TooLong, NotText}
use Rattle.stream.specs.Stream.{clears, opens}
use Rattle.stream.specs.Serving.Modes.{Mode, opened_mode, turn}
use Rattle.stream.specs.Serving.Feeding.{Standing, Standing.between, Standing.skipping, Standing.inside, Outcome, Outcome.pass, Outcome.keep, Outcome.refuse, outcome_of, byte}

pub record Gives (limit : ℕ) (s : Standing) (b : ℕ) (o : Outcome) : Type 0 where
  pub told : byte limit s b ≡ o

-- a bracket is no blank and does not clear
opens-solid : (b : ℕ) → opens b ≡ true → (blank b || clears b) ≡ false
unfolding blank
opens-solid b t = either (eqb b (code "{")) (eqb b (code "[")) (λ e. move (code "{") (eqb-true b (code "{") e) refl) (λ e. move (code "[") (eqb-true b (code "[") e) refl) t
  where
    move : (c : ℕ) → b ≡ c → (blank c || clears c) ≡ false → (blank b || clears b) ≡ false
    move c e h = subst (λ (x : ℕ). (blank x || clears x) ≡ false) (sym e) h

module _ {limit : ℕ} (b : ℕ) where
  pub gap : (blank b || clears b) ≡ true → Gives limit between b (pass between)
  unfolding byte
  gap t = record { told = rw t }

  pub open_bracket : opens b ≡ true → 0 < limit → Gives limit between b (keep (opened_mode (eqb b (code "{"))) (eqb b (code "{") ∷ []))
  unfolding byte
  open_bracket t h = record { told = rw (opens-solid b t, t, lt-ltb 0 limit h) }

  pub no_room : opens b ≡ true → limit ≤ 0 → Gives limit between b (refuse TooLong skipping)
  unfolding byte
  no_room t h = record { told = rw (opens-solid b t, t, le-ltb 0 limit h) }

  pub stray : (blank b || clears b) ≡ false → opens b ≡ false → Gives limit between b (refuse NotText skipping)
  unfolding byte
  stray t u = record { told = rw (t, u) }

  pub clear : clears b ≡ true → Gives limit skipping b (pass between)
  unfolding byte
  clear t = record { told = rw t }

  pub skip : clears b ≡ false → Gives limit skipping b (pass skipping)
  unfolding byte
  skip t = record { told = rw t }

  module _ {md : Mode} {fs : List Bool} {n : ℕ} where
    pub cleared : clears b ≡ true → Gives limit (inside md fs n) b (refuse NotText between)
    unfolding byte
    cleared t = record { told = rw t }

    pub long : clears b ≡ false → limit ≤ n → Gives limit (inside md fs n) b (refuse TooLong skipping)
    unfolding byte
    long t h = record { told = rw (t, le-ltb n limit h) }

    pub turns : clears b ≡ false → n < limit → Gives limit (inside md fs n) b (outcome_of (turn md fs b))
    unfolding byte
    turns t h = record { told = rw (t, lt-ltb n limit h) }
