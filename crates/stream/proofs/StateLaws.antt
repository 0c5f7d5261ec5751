-- Words and what they stand for, over plain numbers.
-- Words stand for a place inside a message when four tests hold; a state that a reader is in meets them all.
use Prim.Native.Nat.{ℕ, suc, ◌^◌}
use native.Mathlib.Omega.{arith}
use mathlib.Core.Path.{◌≡◌, refl, ap, ◌∙◌}
use mathlib.Core.Bool.{Bool, true, false, cond, ◌&&◌}
use lib.Dec.{leb, ltb}
use borrow.Author.Tests.{eq-eqb, ne_eqb, le-leb, lt-ltb, leb-true, ltb-true}
use Rattle.grammar.specs.Limits.{message_levels}
use Rattle.stream.specs.declared.mode.Mode.{Mode}
use Rattle.stream.specs.declared.brackets.Brackets.{Brackets}
use Rattle.stream.specs.declared.steps.Place.{Place}
use Rattle.stream.specs.declared.state.State.TheVariants.{Inside}
use Rattle.stream.specs.Serving.Modes as modes
use Rattle.stream.specs.Serving.Feeding.{Standing}
use Rattle.stream.specs.Serving.States.{first_point, mode_end, mode_at, brackets_of, Nest, Known, stands_for, Normal}
use Rattle.stream.specs.Serving.Contracts.{mode_of, NumberOf, open_of, WordsOf}

module _ (m n k : ℕ) where
  pub stands-between : m ≡ 0 → stands_for m n k ≡ Standing.between
  unfolding stands_for
  stands-between e = rw (eq-eqb m 0 e)

  pub stands-inside : Known m → Nest n → stands_for m n k ≡ Standing.inside (mode_at m) (brackets_of n) k
  unfolding stands_for
  stands-inside f g =
      let a = f.low in
      let b : m ≡ 0 → ⊥ = omega arith in
      rw (ne_eqb m 0 b, le-leb first_point m a, lt-ltb m mode_end f.high, le-leb 2 n g.some_open, lt-ltb n (2 ^ suc message_levels) g.levels)

  module _ (e : m ≡ 0 → ⊥) where
    pub no_mode : (Known m → ⊥) → stands_for m n k ≡ Standing.skipping
    unfolding stands_for
    no_mode f = rw (ne_eqb m 0 e) (go (leb first_point m) (ltb m mode_end) refl refl)
      where
        go : (s t : Bool) → leb first_point m ≡ s → ltb m mode_end ≡ t
            → cond (s && t && leb 2 n && ltb n (2 ^ suc message_levels)) (Standing.inside (mode_at m) (brackets_of n) k) Standing.skipping ≡ Standing.skipping
        go true true h g = absurd (f (record { low = leb-true first_point m h; high = ltb-true m mode_end g }))
        go true false h g = refl
        go false t h g = refl

    pub no_brackets : Known m → (Nest n → ⊥) → stands_for m n k ≡ Standing.skipping
    unfolding stands_for
    no_brackets z f = rw (ne_eqb m 0 e, le-leb first_point m z.low, lt-ltb m mode_end z.high) (go (leb 2 n) (ltb n (2 ^ suc message_levels)) refl refl)
      where
        go : (s t : Bool) → leb 2 n ≡ s → ltb n (2 ^ suc message_levels) ≡ t
            → cond (true && s && t) (Standing.inside (mode_at m) (brackets_of n) k) Standing.skipping ≡ Standing.skipping
        go true true h g = absurd (f (record { some_open = leb-true 2 n h; levels = ltb-true n (2 ^ suc message_levels) g }))
        go true false h g = refl
        go false t h g = refl

-- a place by its words, and the words of a place
pub place_at : {m n k : ℕ} {md : Mode} (b : Brackets) → NumberOf md m → n ≡ b.bits → stands_for m n k ≡ Standing.inside (mode_of md) (open_of b) k
place_at {m} {k = k} b z e = rw e (stands-inside m b.bits k z.known b.«open» ∙ ap (λ (x : modes.Mode). Standing.inside x (open_of b) k) z.same)

pub words_at : {m n k : ℕ} (p : Place) → NumberOf p.mode m → n ≡ p.brackets.bits → WordsOf (Inside p k) (record { mode = m; nest = n; len = k })
words_at p z e = record { stands = place_at p.brackets z e; normal = Normal.inside z.known (rw e p.brackets.«open») }
