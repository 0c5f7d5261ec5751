-- Serves contracts: a name's number, if it has one.
use Rattle.std.specs.Prelude.{ℕ, zero, suc, Option, Some, None}

-- a number from 1 on, where 0 stands for none
abbrev pub if_any : ℕ → Option ℕ
if_any zero = None
if_any (suc n) = Some (suc n)
