-- The number of each mode stands for it, leaf by leaf.
use Prim.Native.Nat.{ℕ, ◌+◌, ◌<◌}
use native.Mathlib.Omega.{arith}
use mathlib.Core.Path.{◌≡◌, refl}
use denote.Enum.Declared.{tag_of}
use Rattle.std.proofs.lemmas.Grind.{common_steps}
use Rattle.stream.specs.contracts.mode.CharMode as chars
use Rattle.stream.specs.contracts.mode.NumberMode as numbers
use Rattle.stream.specs.contracts.mode.Word as words
use Rattle.stream.specs.declared.mode.CharMode.{CharMode}
use Rattle.stream.specs.declared.mode.CharMode.TheVariants.{Escape, LowBackslash, LowU, Hex0, Hex1, Hex1AfterD, Hex2, Hex2High, Hex3, Hex3High, Low0, Low1, Low2, Low3, One, Two, TwoE0, TwoED, Three, ThreeF0, ThreeF4}
use Rattle.stream.specs.declared.mode.NumberMode.{NumberMode}
use Rattle.stream.specs.declared.mode.NumberMode.TheVariants.{AfterMinus, AfterZero, InInteger, AfterPoint, InFraction, AfterE, AfterSign, InExponent}
use Rattle.stream.specs.declared.mode.Word.{Word}
use Rattle.stream.specs.declared.mode.Word.TheVariants.{Ull, Ll, Rue, Ue, Alse, Lse, Se, L, E}
use Rattle.stream.specs.declared.mode.Mode.TheVariants.{InStringChar, InKeyChar, InNumber, InWord}
use Rattle.stream.specs.Serving.States.{char_at, char_count, mode_at}
use Rattle.stream.specs.Serving.Contracts.{char_of, NumberOf}

record CharNumber (c : CharMode) (n : ℕ) : Type 0 where
  known : n < char_count
  same : char_at n ≡ char_of c

char_number : (c : CharMode) → CharNumber c (tag_of chars.the_type c)
unfolding char_at
char_number Escape = record { known = omega arith; same = refl }
char_number LowBackslash = record { known = omega arith; same = refl }
char_number LowU = record { known = omega arith; same = refl }
char_number Hex0 = record { known = omega arith; same = refl }
char_number Hex1 = record { known = omega arith; same = refl }
char_number Hex1AfterD = record { known = omega arith; same = refl }
char_number Hex2 = record { known = omega arith; same = refl }
char_number Hex2High = record { known = omega arith; same = refl }
char_number Hex3 = record { known = omega arith; same = refl }
char_number Hex3High = record { known = omega arith; same = refl }
char_number Low0 = record { known = omega arith; same = refl }
char_number Low1 = record { known = omega arith; same = refl }
char_number Low2 = record { known = omega arith; same = refl }
char_number Low3 = record { known = omega arith; same = refl }
char_number One = record { known = omega arith; same = refl }
char_number Two = record { known = omega arith; same = refl }
char_number TwoE0 = record { known = omega arith; same = refl }
char_number TwoED = record { known = omega arith; same = refl }
char_number Three = record { known = omega arith; same = refl }
char_number ThreeF0 = record { known = omega arith; same = refl }
char_number ThreeF4 = record { known = omega arith; same = refl }

string_char : {c : CharMode} {n : ℕ} → CharNumber c n → NumberOf (InStringChar c) (27 + n)
unfolding mode_at
string_char {c} {n} z = grind (arith, common_steps)

key_char : {c : CharMode} {n : ℕ} → CharNumber c n → NumberOf (InKeyChar c) (48 + n)
unfolding mode_at
key_char {c} {n} z = grind (arith, common_steps)

pub string_char_number : (c : CharMode) → NumberOf (InStringChar c) (27 + tag_of chars.the_type c)
string_char_number c = string_char (char_number c)

pub key_char_number : (c : CharMode) → NumberOf (InKeyChar c) (48 + tag_of chars.the_type c)
key_char_number c = key_char (char_number c)

pub number_number : (n : NumberMode) → NumberOf (InNumber n) (tag_of numbers.the_type n + 10)
unfolding mode_at
number_number AfterMinus = record { known = record { low = omega arith; high = omega arith }; same = refl }
number_number AfterZero = record { known = record { low = omega arith; high = omega arith }; same = refl }
number_number InInteger = record { known = record { low = omega arith; high = omega arith }; same = refl }
number_number AfterPoint = record { known = record { low = omega arith; high = omega arith }; same = refl }
number_number InFraction = record { known = record { low = omega arith; high = omega arith }; same = refl }
number_number AfterE = record { known = record { low = omega arith; high = omega arith }; same = refl }
number_number AfterSign = record { known = record { low = omega arith; high = omega arith }; same = refl }
number_number InExponent = record { known = record { low = omega arith; high = omega arith }; same = refl }

pub word_number : (w : Word) → NumberOf (InWord w) (tag_of words.the_type w + 18)
unfolding mode_at
word_number Ull = record { known = record { low = omega arith; high = omega arith }; same = refl }
word_number Ll = record { known = record { low = omega arith; high = omega arith }; same = refl }
word_number Rue = record { known = record { low = omega arith; high = omega arith }; same = refl }
word_number Ue = record { known = record { low = omega arith; high = omega arith }; same = refl }
word_number Alse = record { known = record { low = omega arith; high = omega arith }; same = refl }
word_number Lse = record { known = record { low = omega arith; high = omega arith }; same = refl }
word_number Se = record { known = record { low = omega arith; high = omega arith }; same = refl }
word_number L = record { known = record { low = omega arith; high = omega arith }; same = refl }
word_number E = record { known = record { low = omega arith; high = omega arith }; same = refl }
