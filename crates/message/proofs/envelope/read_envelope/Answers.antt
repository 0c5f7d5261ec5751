-- `envelope::read_envelope` meets its contract: an object, no other key, and what its keys call.
use mathlib.Core.Path.{◌∙◌, sym}
use Rattle.message.proofs.EnvelopeLaws.{not-object, other_key, envelope-read}
use Rattle.message.proofs.envelope.read_envelope.Goals as goal

pub returns-then-node_word-ne-OBJECT : goal.returns-then-node_word-ne-OBJECT
returns-then-node_word-ne-OBJECT c = not-object _ _ (λ e. c.if-node_word-ne-OBJECT.true (c.node_word.ensures ∙ e))

pub returns-then-not-no_others : goal.returns-then-not-no_others
returns-then-not-no_others c =
    let execute = c.value_at-execute.ensures in
    let oob = c.value_at-oob.ensures in
    let arguments = c.value_at-arguments.ensures in
    let id = c.value_at-id.ensures in
    other_key _ _ execute oob arguments id c.no_others.ensures (c.if-not-no_others.true)

pub returns : goal.returns
returns c =
    let execute = c.value_at-execute.ensures in
    let oob = c.value_at-oob.ensures in
    let arguments = c.value_at-arguments.ensures in
    let id = c.value_at-id.ensures in
    envelope-read _ _ execute oob arguments id c.no_others.ensures (sym c.node_word.ensures ∙ c.if-node_word-ne-OBJECT.false) (c.if-not-no_others.false) c.called.ensures
