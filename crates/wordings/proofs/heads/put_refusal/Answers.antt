-- a meaning has room
use Rattle.std.proofs.Common.{◌≤◌, length, arith, rules}
use Rattle.std.proofs.lemmas.Grind.{common_steps}
use Rattle.lines.proofs.TextLaws.{number_length}
use Rattle.wordings.specs.Serving.Rooms.{longest_meaning}
use Rattle.wordings.proofs.HeadLaws.{meaning_short}
use Rattle.wordings.proofs.heads.put_refusal.Goals as goal

pub put-requires : goal.put-requires
put-requires g c =
    let k : length c.args.meaning.now ≤ longest_meaning = meaning_short c.args.n c.requires.0 in
    (search rules, grind (arith, common_steps, number_length))

pub push-requires-2 : goal.push-requires-2
push-requires-2 g c =
    let k : length c.args.meaning.now ≤ longest_meaning = meaning_short c.args.n c.requires.0 in
    (search rules, grind (arith, common_steps, number_length))

pub returns-clause-upper_bound : goal.returns-clause-upper_bound
returns-clause-upper_bound g c =
    let k : length c.args.meaning.now ≤ longest_meaning = meaning_short c.args.n c.requires.0 in
    grind (arith, common_steps, number_length)
