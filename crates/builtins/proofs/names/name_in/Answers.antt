-- `name_in` meets its contract: the part of the text between the bounds of the name.
use Rattle.builtins.proofs.NameLaws.{name-at}
use Rattle.builtins.proofs.names.name_in.Goals as goal

pub slice_bounds-result-count : goal.slice_bounds-result-count
slice_bounds-result-count c = (name-at c.args.b c.requires).rises

pub slice_bounds-result-start : goal.slice_bounds-result-start
slice_bounds-result-start c = (name-at c.args.b c.requires).rises

pub slice_bounds-result-end : goal.slice_bounds-result-end
slice_bounds-result-end c = (name-at c.args.b c.requires).within

pub returns : goal.returns
returns c = (name-at c.args.b c.requires).is
