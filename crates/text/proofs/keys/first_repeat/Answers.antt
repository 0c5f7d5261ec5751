-- `keys::first_repeat` meets its contract: the least node is that of the first repeated key.
use Rattle.text.proofs.SearchLaws.{search-found, search-none}
use Rattle.text.proofs.keys.first_repeat.Goals as goal

pub returns-then-least-count : goal.returns-then-least-count
returns-then-least-count c = search-found c.least_in-least.ensures c.if-least-count.true c.node_number.ensures

pub returns : goal.returns
returns c = search-none c.least_in-least.ensures c.if-least-count.false
