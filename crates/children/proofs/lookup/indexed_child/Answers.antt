-- `lookup::indexed_child` meets its contract: the chain of the bucket of what is meant.
use Rattle.children.proofs.LookupLaws.{child_indexed}
use Rattle.children.proofs.lookup.indexed_child.Goals as goal

pub returns : goal.returns
returns c = child_indexed c.meaning_hash.ensures c.owner_hash-hash.ensures c.bucket_of.ensures c.number_at-head.ensures c.listed_child.ensures
