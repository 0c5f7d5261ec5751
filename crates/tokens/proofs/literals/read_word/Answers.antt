-- `literals::read_word` meets its contract: the bytes of the word stand there, or one of them does not.
-- The invariant: what is found from byte `i` of the word on is found from its first.
use native.Mathlib.Omega.{arith}
use Rattle.tokens.proofs.WordRuns.{word_more, word-differs, word_cut, word-whole}
use Rattle.tokens.proofs.literals.read_word.Goals as goal
use Rattle.tokens.proofs.literals.read_word.Goals.{then-s-at-via-then-s-at, then-s-at-via-else-s-at+then-s-at-2}

pub returns-then-s-at : goal.returns-then-s-at
returns-then-s-at c =
    elim c.then-s-at.branch [
      | then-s-at-via-then-s-at w ↦ word_cut c.loop-i.invariant (omega arith) w.if-s-at.true
      | then-s-at-via-else-s-at+then-s-at-2 w ↦ word-differs c.loop-i.invariant (omega arith) w.if-s-at.false w.if-s-at-2.true
    ]

pub loop-i-preserved : goal.loop-i-preserved
loop-i-preserved c = word_more c.loop-i.invariant (omega arith) c.if-s-at.false c.if-s-at-2.false

pub returns : goal.returns
returns c = word-whole c.loop-i.invariant (omega arith)
