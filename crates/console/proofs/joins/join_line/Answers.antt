-- LF is found, or the chunk is used up
use Rattle.std.proofs.Common.{arith, ◌∙◌}
use Rattle.std.proofs.lemmas.Grind.{common_steps}
use Rattle.console.proofs.JoinLaws.{lf_found, lf_missing, joined_found, joined_whole}
use Rattle.console.proofs.joins.join_line.Goals as goal

pub returns-in-Some-clause-joined : goal.returns-in-Some-clause-joined
returns-in-Some-clause-joined g c =
    let f = lf_found c.args.chunk.now c.line_end.ensures c.in-Some.is in
    let j = joined_found g.row.N c.args.line.now c.args.chunk.now f.0 in
    grind (arith, common_steps, j)

pub returns-in-Some-clause-left : goal.returns-in-Some-clause-left
returns-in-Some-clause-left g c =
    let f = lf_found c.args.chunk.now c.line_end.ensures c.in-Some.is in
    (omega (arith, f.0, f.1), grind (arith, common_steps, f.0, f.1))

pub returns-in-None-clause-joined : goal.returns-in-None-clause-joined
returns-in-None-clause-joined g c = c.keep-in-None.ensures ∙ joined_whole g.row.N c.args.line.now c.args.chunk.now (lf_missing c.args.chunk.now c.line_end.ensures c.in-None.is)

pub returns-in-None-clause-left : goal.returns-in-None-clause-left
returns-in-None-clause-left g c = lf_missing c.args.chunk.now c.line_end.ensures c.in-None.is
