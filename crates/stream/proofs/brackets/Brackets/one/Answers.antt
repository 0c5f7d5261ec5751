use Rattle.stream.proofs.Nests.{only_one}
use Rattle.stream.proofs.brackets.Brackets.one.Goals as goal

pub returns : goal.returns
returns c = only_one c.args.object
