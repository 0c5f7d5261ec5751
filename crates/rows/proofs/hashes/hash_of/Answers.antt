-- `hashes::hash_of` gives the hash of a name.
-- Its four parts are below 256, so the sum fits.
use Prim.Native.Nat.{◌-◌}
use lib.ListN.{length}
use Rattle.rows.specs.Hashes.{hash_of}
use Rattle.rows.proofs.NameFacts.{c_length, c_byte_lem}
use Rattle.rows.proofs.hashes.hash_of.Goals as goal

pub returns : goal.returns
unfolding hash_of
returns c =
    let x = c.args.name.now in
    rw (c_length, c_byte_lem x (length x - length x), c_byte_lem x (length x - 1), c_byte_lem x (length x - 2), c_byte_lem x (length x - 3))
    (rw (← c.c_byte_back.ensures, ← c.c_byte_back-a.ensures, ← c.c_byte_back-b.ensures, ← c.c_byte_back-c.ensures))
