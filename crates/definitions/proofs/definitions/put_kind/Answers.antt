-- `definitions::put_kind` meets its contract: a name, then kind by kind.
use native.Mathlib.Omega.{arith}
use Rattle.definitions.proofs.Stores.{handed}
use Rattle.definitions.proofs.KindLaws.{kind-named, last-kind}
use Rattle.definitions.proofs.definitions.put_kind.Goals as goal

pub returns-in_default : goal.returns-in_default
returns-in_default c =
    handed (omega arith) (kind-named c.is_string.ensures (c.if-not-is_string.false) (last-kind _ c.in_default.in_default-own.rest.0.0.0.1 c.in_default.in_default-own.rest.0.0.1 c.in_default.in_default-own.rest.0.1 c.in_default.in_default-own.rest.1)) c.put_command.ensures
