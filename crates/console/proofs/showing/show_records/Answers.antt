use Rattle.console.proofs.ShowLaws.{fewer}
use Rattle.console.proofs.showing.show_records.Goals as goal

pub loop-smaller : goal.loop-smaller
loop-smaller g c = fewer c.in_ok-show_next.ensures.shows c.if-branch.true
