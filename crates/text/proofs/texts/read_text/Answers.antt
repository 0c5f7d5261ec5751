-- `texts::read_text` meets its contract: by the dialect.
use Prim.Native.Nat.{◌≤◌}
use mathlib.Core.Path.{refl}
use lib.ListN.{length}
use native.Mathlib.Omega.{arith}
use mathlib.Core.List.{List}
use Prim.Native.Nat.{ℕ}
use Rattle.std.specs.Prelude.{Err}
use Rattle.strings.specs.declared.dialects.Dialect.{Dialect}
use Rattle.strings.specs.declared.dialects.Dialect.TheVariants.{Schema, Message}
use Rattle.text.specs.Nodes.{text_bound}
use Rattle.text.specs.Texts.{ReadsText}
use Rattle.text.specs.declared.reader.TextError.TheVariants.{TooLong}
use Rattle.text.proofs.texts.read_text.Goals as goal

too_long : (d : Dialect) (s w : List ℕ) → text_bound ≤ length s → ReadsText d s w w (Err TooLong)
too_long Schema s w h = record { same_length = refl; told = h }
too_long Message s w h = record { same_length = refl; told = h }

pub returns-then-s-gt-MOST_BYTES : goal.returns-then-s-gt-MOST_BYTES
returns-then-s-gt-MOST_BYTES c = too_long c.args.dialect c.args.s.now c.args.nodes.now (omega arith)

pub returns-in-Schema : goal.returns-in-Schema
returns-in-Schema c = rw c.in-Schema.is c.read_objects.ensures

pub returns-in-Message : goal.returns-in-Message
returns-in-Message c = rw c.in-Message.is c.read_whole.ensures
