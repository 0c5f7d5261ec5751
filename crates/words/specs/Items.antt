-- Serves contracts: words written in items of a width.
use Rattle.std.specs.Prelude.{ℕ, ◌+◌, ◌*◌, cond, List, leb, length}
use Rattle.std.proofs.lemmas.List.Edits.{sets}

-- the words after item k is written, if all of it fits
unfoldable pub put_item : ℕ → List ℕ → ℕ → List ℕ → List ℕ
put_item width w k xs = cond (leb (width * k + width) (length w)) (sets w (width * k) xs) w
