-- `chars::utf8` reads UTF-8 after its lead byte as the machine does.
-- One way out for each state that a lead byte leads to, and two for the bytes that lead to none.
use native.Mathlib.Omega.{arith}
use mathlib.Core.Path.{refl, sym, ◌∙◌}
use Rattle.grammar.specs.Serving.Machine.Message.Want.{one, two, two_E0, two_ED, three, three_F0, three_F4}
use Rattle.grammar.proofs.Booleans.Outside.{below, above}
use Rattle.grammar.proofs.StringsComplete.{lead-two, lead-three, lead-four, lead_E0, lead_ED, lead_F0, lead_F4}
use Rattle.strings.proofs.Utf8.{one_byte}
use Rattle.strings.proofs.MessageChars.{lead-none, lead-bytes}
use Rattle.strings.proofs.chars.utf8.Goals as goal

pub returns-in-224 : goal.returns-in-224
returns-in-224 c = c.two_bytes.ensures ∙ lead-bytes two_E0 _ _ (sym c.in-224.is) lead_E0

pub returns-in-237 : goal.returns-in-237
returns-in-237 c = c.two_bytes-in-237.ensures ∙ lead-bytes two_ED _ _ (sym c.in-237.is) lead_ED

pub returns-in-240 : goal.returns-in-240
returns-in-240 c = c.three_bytes.ensures ∙ lead-bytes three_F0 _ _ (sym c.in-240.is) lead_F0

pub returns-in-244 : goal.returns-in-244
returns-in-244 c = c.three_bytes-in-244.ensures ∙ lead-bytes three_F4 _ _ (sym c.in-244.is) lead_F4

pub returns-in-194-to-223 : goal.returns-in-194-to-223
returns-in-194-to-223 c = one_byte c.last_byte.ensures ∙ lead-bytes one _ _ refl (lead-two _ (omega arith) (omega arith))

pub returns-in-225-to-239 : goal.returns-in-225-to-239
returns-in-225-to-239 c = c.two_bytes-in-225-to-239.ensures ∙ lead-bytes two _ _ refl (lead-three _ (omega arith) (omega arith) (omega arith))

pub returns-in-241-to-243 : goal.returns-in-241-to-243
returns-in-241-to-243 c = c.three_bytes-in-241-to-243.ensures ∙ lead-bytes three _ _ refl (lead-four _ (omega arith) (omega arith))

pub returns-in_default : goal.returns-in_default
returns-in_default c = lead-none _ _ _ c.requires.1 (below (omega arith))

pub returns-in_default-2 : goal.returns-in_default-2
returns-in_default-2 c = lead-none _ _ _ c.requires.1 (above (omega arith))
