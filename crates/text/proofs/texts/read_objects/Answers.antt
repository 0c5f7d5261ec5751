-- `texts::read_objects` meets its contract: objects with blanks and comments around, to the end. The invariant: the objects so far, read and held.
-- The measure is what is left of the text.
use native.Mathlib.Omega.{arith}
use Rattle.text.proofs.Inside.{handed_on}
use Rattle.text.proofs.Wholes.{objects_begin, objects-whole, objects-other, object-ready, object-on, object-past, object-stops}
use Rattle.text.proofs.texts.read_objects.Goals as goal

pub objects-init : goal.objects-init
objects-init c = objects_begin

pub returns-then-s-p : goal.returns-then-s-p
returns-then-s-p c = objects-whole c.objects.invariant c.skip_blanks-p.ensures c.if-s-p.true

pub returns-then-not-stands : goal.returns-then-not-stands
returns-then-not-stands c = objects-other c.objects.invariant c.skip_blanks-p.ensures c.if-s-p.false c.stands.ensures c.if-not-stands.true

pub read_at-requires : goal.read_at-requires
read_at-requires c =
    let x = c.skip_blanks-p.ensures in
    (object-ready c.objects.invariant x c.stands.ensures c.if-not-stands.false c.requires, x.solid)

pub objects-smaller : goal.objects-smaller
objects-smaller c = omega (arith, object-on c.skip_blanks-p.ensures c.read_at.ensures c.in_ok-object.was)

pub objects-preserved : goal.objects-preserved
objects-preserved c =
    object-past c.objects.invariant c.skip_blanks-p.ensures c.stands.ensures c.if-not-stands.false c.read_at.ensures c.in_ok-object.was

pub returns-in_err-object : goal.returns-in_err-object
returns-in_err-object c =
    rw (handed_on c.from_residual.result c.from_residual.ensures.1)
    (object-stops c.objects.invariant c.skip_blanks-p.ensures c.stands.ensures c.if-not-stands.false c.read_at.ensures _ c.in_err-object.was)
