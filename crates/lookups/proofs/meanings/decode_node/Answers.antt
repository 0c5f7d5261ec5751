-- `meanings::decode_node` meets its contract: the words of the node say where the token stands.
use Rattle.lookups.proofs.TokenLaws.{token_decodes}
use Rattle.lookups.proofs.meanings.decode_node.Goals as goal

pub returns : goal.returns
returns c = token_decodes c.node_number-a.ensures c.decode.ensures
