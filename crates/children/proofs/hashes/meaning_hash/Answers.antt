-- `hashes::meaning_hash` meets its contract: the words of the node say where the token stands and whether it is plain.
use Rattle.children.proofs.HashLaws.{token-hash}
use Rattle.children.proofs.hashes.meaning_hash.Goals as goal

pub returns : goal.returns
returns c = token-hash c.node_number-a.ensures c.node_number-e.ensures c.node_word.ensures c.plain_kind-plain.ensures c.hash_of.ensures
