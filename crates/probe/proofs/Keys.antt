-- The place of a repeated key, as a number.
use Prim.Native.Nat.{ℕ}
use mathlib.Core.Path.{◌≡◌, refl, ap, ◌∙◌}
use mathlib.Core.List.{List}
use lib.ListN.{length}
use Rattle.grammar.specs.Serving.Machine.{Dialect}
use Rattle.std.specs.Option.{unwrap_or}
use Rattle.std.specs.Prelude.{Option, Some, None}
use Rattle.text.specs.Keys.{place_of, FirstRepeat}
use Rattle.probe.specs.Probe.{number_or, KeysProbed}

place_or : (n : ℕ) (x : Option ℕ) → unwrap_or x n ≡ number_or n (place_of x)
place_or n None = refl
place_or n (Some p) = refl

pub keys_probed : {D : Dialect} {s w : List ℕ} {n r : ℕ} {found : Option ℕ} → FirstRepeat D s w n found → r ≡ unwrap_or found (length s) → KeysProbed D s w n r
keys_probed {s = s} {found = found} f e = record { told = λ js l h. e ∙ place_or (length s) found ∙ ap (number_or (length s)) (f.told js l h) }
