-- `Classes::is_digit` tells a byte by its class.
use mathlib.Core.Path.{sym, ap, ◌∙◌}
use Rattle.strings.specs.Classes.{digit_class}
use Rattle.strings.proofs.ByteClasses.{tells}
use Rattle.strings.proofs.classes.Classes.is_digit.Goals as goal

pub returns : goal.returns
returns c = c.is_digit.ensures ∙ ap digit_class c.class_of.ensures ∙ sym (tells c.args.b).1
