-- The walk that is left ends where the whole one does.
use Rattle.std.proofs.Common.{◌≡◌, ◌+◌, ◌-◌, ◌<◌, sym, ◌∙◌, arith}
use Rattle.rows.proofs.LoopLaws.{room_next, past_next, past-over}
use Rattle.rows.proofs.rows.past_rows.Goals as goal

pub loop-init : goal.loop-init
loop-init c =
    let z : c.args.n - 0 ≡ c.args.n = omega arith in
    record { room = rw z c.requires; ends = rw z; low = omega arith }

pub next_row-i-requires : goal.next_row-i-requires
next_row-i-requires c = omega (arith, c.loop.invariant.room.low)

pub loop-preserved : goal.loop-preserved
loop-preserved c =
    let more : 0 < c.args.n - c.loop.counter = omega arith in
    let e : c.args.n - c.loop.counter - 1 ≡ c.args.n - (c.loop.counter + 1) = omega arith in
    record {
      room = rw (← e) (room_next c.loop.invariant.room more c.next_row-i.ensures);
      ends = c.loop.invariant.ends ∙ rw (← e) (past_next more c.next_row-i.ensures);
      low = omega (arith, c.loop.invariant.low, c.next_row-i.ensures.low);
    }

pub returns : goal.returns
returns c = (sym (c.loop.invariant.ends ∙ past-over _ _ (omega arith)), omega (arith, c.loop.invariant.low))
