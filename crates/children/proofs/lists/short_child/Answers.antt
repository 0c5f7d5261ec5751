-- `lists::short_child` meets its contract: a plain key or string means its bytes.
use Rattle.children.proofs.ScanLaws.{scan-plain}
use Rattle.children.proofs.lists.short_child.Goals as goal

pub returns-then-plain_kind : goal.returns-then-plain_kind
returns-then-plain_kind c = scan-plain c.node_word.ensures c.plain_kind.ensures c.if-plain_kind.true c.inner_bytes.ensures c.named_child.ensures
