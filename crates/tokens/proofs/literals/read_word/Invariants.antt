-- `literals::read_word` meets its contract: the bytes of the word stand there, or one of them does not.
-- The invariant: what is found from byte `i` of the word on is found from its first.
use Rattle.tokens.proofs.WordRuns.{WordPassed}
use Rattle.tokens.proofs.literals.read_word.Given as goal

abbrev pub invariant-loop-i : goal.invariant-loop-i
invariant-loop-i l = WordPassed l.s l.from l.w l.i
