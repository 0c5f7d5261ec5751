-- `lists::put_member` meets its contract.
use mathlib.Core.Path.{refl}
use Rattle.definitions.proofs.ChildLaws.{member-refused, member-put}
use Rattle.definitions.proofs.NameLaws.{flag_word}
use Rattle.definitions.proofs.lists.put_member.Goals as goal

pub returns-in_default : goal.returns-in_default
returns-in_default c = member-refused c.read_type.ensures c.in_default.is refl

pub returns : goal.returns
returns c =
    member-put c.read_type.ensures c.in-Ok.is c.star-optional.ensures (flag_word _) (flag_word _) c.named_row-own.ensures c.put_row.ensures
