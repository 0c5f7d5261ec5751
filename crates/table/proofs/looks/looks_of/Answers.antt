-- `looks_of` meets its contract: looked through where no word tells.
use native.Mathlib.Omega.{arith}
use Rattle.table.proofs.LookLaws.{looked-more}
use Rattle.table.proofs.looks.looks_of.Goals as goal

pub returns-then-known-ge-LOOKED : goal.returns-then-known-ge-LOOKED
returns-then-known-ge-LOOKED c = record { is = c.requires.1.told _ (omega arith) c.if-known-ge-LOOKED.true; looked = c.requires.1 }

pub returns : goal.returns
returns c = record { is = c.look_through-found.ensures; looked = looked-more c.requires.1 (omega arith) c.look_through-found.ensures }
