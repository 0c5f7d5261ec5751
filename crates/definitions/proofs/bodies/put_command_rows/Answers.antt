-- `bodies::put_command_rows` meets its contract: the inline data, then the command's own row.
use mathlib.Core.Path.{refl, ◌∙◌}
use native.Mathlib.Omega.{arith}
use Rattle.definitions.proofs.Stores.{passed_on, bounds}
use Rattle.definitions.proofs.NameLaws.{flag_word}
use Rattle.definitions.proofs.CommandLaws.{command-bad_data, command-put}
use Rattle.definitions.proofs.bodies.put_command_rows.Goals as goal

pub returns-in_err-m : goal.returns-in_err-m
returns-in_err-m c =
    passed_on c.from_residual.ensures.0 c.put_inline.ensures.same_length (command-bad_data c.put_inline.ensures c.in_err-m.was)

pub returns : goal.returns
returns c =
    let a = bounds c.put_inline.ensures c.in_ok-m.was in
    record {
      same_length = c.put_row.ensures.same_length ∙ c.put_inline.ensures.same_length;
      few = (omega (arith, a.0), omega (arith, a.1));
      told = command-put c.put_inline.ensures refl c.in_ok-m.was c.named_row-own.ensures c.data_link.ensures (flag_word _) (flag_word _) c.put_row.ensures;
    }
