-- `references::find::fits` says whether a row of a kind may be meant.
-- Kind by kind.
use mathlib.Core.Path.{refl}
use Rattle.references.proofs.FindLaws.{fit-type, fit-struct, fit_none}
use Rattle.references.proofs.find.fits.Goals as goal

pub returns-in-1 : goal.returns-in-1
returns-in-1 c = fit-type c.args.structs c.in-1.is refl refl

pub returns-in-3 : goal.returns-in-3
returns-in-3 c = fit-struct c.args.structs c.in-3.is

pub returns-in-5 : goal.returns-in-5
returns-in-5 c = fit-type c.args.structs c.in-5.is refl refl

pub returns-in-7 : goal.returns-in-7
returns-in-7 c = fit-type c.args.structs c.in-7.is refl refl

pub returns-in_default : goal.returns-in_default
returns-in_default c = fit_none c.args.structs c.in_default.in_default-own.rest.0.0.0.1 c.in_default.in_default-own.rest.0.0.1 c.in_default.in_default-own.rest.0.1 c.in_default.in_default-own.rest.1
