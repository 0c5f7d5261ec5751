-- `reader::scalar_node` meets its contract: the scalar's run is the value's, and its one node says it.
use native.Mathlib.Omega.{arith}
use Rattle.text.proofs.Inside.{handed_on}
use Rattle.text.proofs.Values.{leaf-fits, leaf-read, leaf-stop}
use Rattle.text.proofs.reader.scalar_node.Goals as goal

pub put_node-requires : goal.put_node-requires
put_node-requires c = leaf-fits c.read_scalar.ensures c.requires.0 c.in_ok-scalar.was (omega arith)

pub returns-in_err-scalar : goal.returns-in_err-scalar
returns-in_err-scalar c = rw (handed_on c.from_residual.result c.from_residual.ensures.1) (leaf-stop c.read_scalar.ensures c.in_err-scalar.was)

pub returns : goal.returns
returns c = leaf-read c.read_scalar.ensures c.in_ok-scalar.was c.put_node.ensures
