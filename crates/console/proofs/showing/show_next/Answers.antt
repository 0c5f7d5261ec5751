-- none is left, the line waits, or what is put is written, or can't be
use Rattle.std.proofs.Common.{refl, inl, inr, ap, length, arith}
use Rattle.console.proofs.ShowLaws.{shows_none, shows_line}
use Rattle.console.proofs.showing.show_next.Goals as goal

pub returns-in-None-clause-shows : goal.returns-in-None-clause-shows
returns-in-None-clause-shows g c = shows_none _ _ _ _ _ _ c.args.reader.now c.next-seen.new.self c.args.around.now c.args.out.now c.next-seen.ensures c.put_record.ensures.puts c.put_record.ensures.opens c.in-None.is

pub returns-then-left-ge-LINE_ROOM-clause-shows : goal.returns-then-left-ge-LINE_ROOM-clause-shows
returns-then-left-ge-LINE_ROOM-clause-shows g c =
    shows_line _ _ _ _ _ _ c.args.reader.now c.next-seen.new.self c.args.around.now c.args.out.now c.next-seen.ensures c.put_record.ensures.puts c.put_record.ensures.opens c.in-Some.is (inl refl) (omega (arith, c.left.ensures, c.if-left-ge-LINE_ROOM.true))

pub returns-in_ok-write_all-in-Some-clause-shows : goal.returns-in_ok-write_all-in-Some-clause-shows
returns-in_ok-write_all-in-Some-clause-shows g c =
    shows_line _ _ _ _ _ _ c.args.reader.now c.next-seen.new.self c.args.around.now c.args.out.now c.next-seen.ensures c.put_record.ensures.puts c.put_record.ensures.opens c.in-Some.is (inr c.clear.ensures) (omega (arith, c.requires.1, ap length c.clear.ensures))
