-- `references::discriminators::discriminator_link` looks for the discriminator among the members of the base, where its chain ends.
use mathlib.Core.Path.{ap}
use mathlib.Core.Bool.{not}
use Rattle.references.proofs.DiscriminatorLaws.{discriminator_endless, discriminator_none, discriminator_found_lem, link_word}
use Rattle.references.proofs.discriminators.discriminator_link.Goals as goal

pub returns-then-not-chain_ends : goal.returns-then-not-chain_ends
returns-then-not-chain_ends c =
    discriminator_endless c.args.s.now c.args.rows.now c.args.r c.word-base.ensures c.chain_ends.ensures (ap not c.if-not-chain_ends.true)

pub returns-in-Some : goal.returns-in-Some
returns-in-Some c =
    discriminator_found_lem c.args.s.now c.args.rows.now c.args.r c.word-base.ensures c.chain_ends.ensures (ap not c.if-not-chain_ends.false)
    c.word.ensures c.named_by-name.ensures c.member.ensures c.in-Some.is (link_word _ _ c.saturating_add.ensures c.try_from.ensures c.unwrap_or.ensures)

pub returns-in-None : goal.returns-in-None
returns-in-None c =
    discriminator_none c.args.s.now c.args.rows.now c.args.r c.word-base.ensures c.chain_ends.ensures (ap not c.if-not-chain_ends.false)
    c.word.ensures c.named_by-name.ensures c.member.ensures c.in-None.is
