use Rattle.stream.proofs.Numbers.{string_char_number, key_char_number, number_number, word_number}
use Rattle.stream.proofs.mode.Mode.number.Goals as goal

pub returns-in-InStringChar : goal.returns-in-InStringChar
returns-in-InStringChar c = rw c.in-InStringChar.is (string_char_number c.in-InStringChar.c)

pub returns-in-InKeyChar : goal.returns-in-InKeyChar
returns-in-InKeyChar c = rw c.in-InKeyChar.is (key_char_number c.in-InKeyChar.c)

pub returns-in-InNumber : goal.returns-in-InNumber
returns-in-InNumber c = rw c.in-InNumber.is (number_number c.in-InNumber.n)

pub returns-in-InWord : goal.returns-in-InWord
returns-in-InWord c = rw c.in-InWord.is (word_number c.in-InWord.w)
