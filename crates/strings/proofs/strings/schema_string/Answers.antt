-- `strings::schema_string` reads a schema string.
-- The loop's invariant: the string is read up to `i`, and `spelling` says whether every byte so far is plain.
use native.Mathlib.Omega.{arith}
use Rattle.strings.specs.declared.dialects.Dialect.TheVariants.{Schema}
use Rattle.strings.proofs.CharRuns.{handed_on}
use Rattle.strings.proofs.StringReads.{moves, schema-starts, schema-plain, schema-coded, schema-string, schema-fault, schema-ends}
use Rattle.strings.proofs.strings.schema_string.Goals as goal

pub loop-i-init : goal.loop-i-init
loop-i-init c = schema-starts c.requires

pub returns-then-s-i-eq39 : goal.returns-then-s-i-eq39
returns-then-s-i-eq39 c = schema-string c.loop-i.invariant c.loop-i-test.true c.if-s-i-eq39.true

pub returns-in_err-c : goal.returns-in_err-c
returns-in_err-c c =
    rw (handed_on c.from_residual.result c.from_residual.ensures.1)
    (schema-fault c.loop-i.invariant c.if-s-i-eq39.false c.schema_char.ensures c.in_err-c.was)

pub loop-i-smaller-then-c-eq92 : goal.loop-i-smaller-then-c-eq92
loop-i-smaller-then-c-eq92 c = omega (arith, moves Schema _ _ c.schema_char.ensures c.in_ok-c.was, c.loop-i-test.true)

pub loop-i-preserved-then-c-eq92 : goal.loop-i-preserved-then-c-eq92
loop-i-preserved-then-c-eq92 c = schema-coded c.loop-i.invariant c.schema_char.ensures c.in_ok-c.was c.if-c-eq92.true

pub loop-i-smaller : goal.loop-i-smaller
loop-i-smaller c = omega (arith, moves Schema _ _ c.schema_char.ensures c.in_ok-c.was, c.loop-i-test.true)

pub loop-i-preserved : goal.loop-i-preserved
loop-i-preserved c = schema-plain c.loop-i.invariant c.schema_char.ensures c.in_ok-c.was c.if-c-eq92.false

pub returns : goal.returns
returns c = schema-ends c.loop-i.invariant c.loop-i-test.false
