-- `union_fits` meets its contract.
-- A law for each return: no branch, a chain that does not end, no discriminator that fits, or whether every branch fits.
use native.Mathlib.Omega.{arith}
use Rattle.rows.proofs.Walks.{so}
use Rattle.table.proofs.UnionLaws.{discriminator-linked, discriminator-type, union_empty, union_endless, union_undiscriminated, union-is}
use Rattle.table.proofs.unions.union_fits.Goals as goal

pub returns-then-word-eq0 : goal.returns-then-word-eq0
returns-then-word-eq0 c =
    union_empty c.args.table.schema.now c.args.table.rows.now
    c.args.r c.word.ensures c.if-word-eq0.true

pub returns-then-not-chain_ends : goal.returns-then-not-chain_ends
returns-then-not-chain_ends c =
    union_endless c.args.table.schema.now
    c.args.table.rows.now
    c.args.r c.word.ensures
    c.if-word-eq0.false c.word-base.ensures
    (so c.chain_ends.ensures c.if-not-chain_ends.true)

pub returns-then-not-discriminator_fits : goal.returns-then-not-discriminator_fits
returns-then-not-discriminator_fits c =
    union_undiscriminated c.args.table.schema.now
    c.args.table.rows.now
    c.args.r
    c.word.ensures c.if-word-eq0.false
    c.word-base.ensures
    (so c.chain_ends.ensures c.if-not-chain_ends.false)
    (so c.discriminator_fits.ensures c.if-not-discriminator_fits.true)

pub overflow_sub-discriminator : goal.overflow_sub-discriminator
overflow_sub-discriminator c = omega (arith, discriminator-linked _ _ (so c.discriminator_fits.ensures c.if-not-discriminator_fits.false))

pub overflow_sub-e : goal.overflow_sub-e
overflow_sub-e c =
    discriminator-type _ _ c.word-2.ensures c.word-3.ensures
    (so c.discriminator_fits.ensures c.if-not-discriminator_fits.false)

pub returns : goal.returns
returns c =
    union-is
    c.args.table.schema.now
    c.args.table.rows.now
    c.args.r
    c.word.ensures
    c.if-word-eq0.false
    c.word-base.ensures
    (so c.chain_ends.ensures
    c.if-not-chain_ends.false)
    (so c.discriminator_fits.ensures c.if-not-discriminator_fits.false)
    c.word-2.ensures
    c.word-3.ensures c.branches_fit.ensures
