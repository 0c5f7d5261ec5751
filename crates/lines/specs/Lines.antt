-- Reference, Program and Viewer: the lines of a text, of which only LF ends one.
use Rattle.std.specs.Prelude.{ℕ, suc, Bool, true, false, List, [], ◌∷◌, eqb}
use Prim.Native.Char.{code}

abbrev pub or_next : Bool → ℕ → ℕ
or_next true k = 0
or_next false k = suc k

-- how many bytes stand before the first LF, or all of them
unfoldable pub before_lf : List ℕ → ℕ
before_lf [] = 0
before_lf (b ∷ l) = or_next (eqb b (code "\n")) (before_lf l)
