-- `Classes::is_blank` tells a byte by its class.
use mathlib.Core.Path.{sym, ap, ◌∙◌}
use Rattle.strings.specs.Classes.{blank_class}
use Rattle.strings.proofs.ByteClasses.{tells}
use Rattle.strings.proofs.classes.Classes.is_blank.Goals as goal

pub returns : goal.returns
returns c = c.is_blank.ensures ∙ ap blank_class c.class_of.ensures ∙ sym (tells c.args.b).0
