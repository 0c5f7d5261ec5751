-- `references::discriminators::put_discriminator` puts the link of a union's discriminator.
use Rattle.references.proofs.DiscriminatorLaws.{union-put, other-put}
use Rattle.references.proofs.discriminators.put_discriminator.Goals as goal

pub returns-then-word-eq-UNION : goal.returns-then-word-eq-UNION
returns-then-word-eq-UNION c =
    union-put c.args.s.now c.args.rows.now c.args.r c.word.ensures c.if-word-eq-UNION.true c.discriminator_link-link.ensures

pub returns-else-word-eq-UNION : goal.returns-else-word-eq-UNION
returns-else-word-eq-UNION c = other-put c.args.s.now c.args.rows.now c.args.r c.word.ensures c.if-word-eq-UNION.false
