-- Worked examples: streams, what they give and where they end, computed by the run that is proved to give the one split.
-- One list, one theorem for the outputs and one for the ends.
use Prim.Native.Nat.{ℕ, zero, suc}
use mathlib.Core.Path.{◌≡◌, refl}
use mathlib.Core.List.{List, [], ◌∷◌, ◌++◌, map}
use lib.ListN.{take}
use Rattle.grammar.specs.Notation.{text}
use Rattle.rules.specs.declared.MessageRefusal.TheVariants.{TooLong, NotText, TooDeep}
use Rattle.stream.specs.Stream.{Output, Output.message, Output.refused, End, End.between, End.skipping, End.inside}
use Rattle.stream.specs.Serving.Feeding.{Standing, Run, run}
use Rattle.stream.proofs.Unique.{zeros}

record Vector : Type 0 where
  limit : ℕ
  bytes : List ℕ
  outputs : List Output
  end : End

abbrev end_of : Standing → List ℕ → End
end_of Standing.between buf = between
end_of Standing.skipping buf = skipping
end_of (Standing.inside md fs n) buf = inside (take n buf)

abbrev ran : Vector → Run
ran v = run v.limit Standing.between (zeros v.limit) v.bytes

abbrev brackets : ℕ → List ℕ
brackets zero = []
brackets (suc n) = 91 ∷ brackets n

abbrev vectors : List Vector
vectors =
    -- messages on one line, over several, with blanks between them or not
    record { limit = 64; bytes = text "[1] {}\n{\"a\":\n[]}"; outputs = message (text "[1]") ∷ message (text "{}") ∷ message (text "{\"a\":\n[]}") ∷ []; end = between }
    -- the end inside a message, in a word, a number, an escape
    ∷ record { limit = 64; bytes = text "{\"a\":[tr"; outputs = []; end = inside (text "{\"a\":[tr") }
    ∷ record { limit = 64; bytes = text "[-"; outputs = []; end = inside (text "[-") }
    ∷ record { limit = 64; bytes = text "[\"\\uD83D\\"; outputs = []; end = inside (text "[\"\\uD83D\\") }
    -- any other byte at the outermost level, and what it skips
    ∷ record { limit = 64; bytes = text " 1 []"; outputs = refused NotText ∷ []; end = skipping }
    ∷ record { limit = 64; bytes = text "x []" ++ (0xFF ∷ text "[]"); outputs = refused NotText ∷ message (text "[]") ∷ []; end = between }
    -- a clearing byte inside a message, in a string too; between messages; a tab in a string
    ∷ record { limit = 64; bytes = text "[\"a" ++ (0 ∷ text "[]"); outputs = refused NotText ∷ message (text "[]") ∷ []; end = between }
    ∷ record { limit = 64; bytes = 0 ∷ 0xFF ∷ text "[]"; outputs = message (text "[]") ∷ []; end = between }
    ∷ record { limit = 64; bytes = text "[\"a" ++ (9 ∷ text "[]"); outputs = refused NotText ∷ []; end = skipping }
    -- a fault, and a clearing byte that ends its skip without a word
    ∷ record { limit = 64; bytes = text "[0" ++ (0x7F ∷ 0 ∷ []); outputs = refused NotText ∷ []; end = between }
    -- the limit: as many bytes as there is room for, one more, a clearing byte there, and no room at all
    ∷ record { limit = 4; bytes = text "[1] [12]"; outputs = message (text "[1]") ∷ message (text "[12]") ∷ []; end = between }
    ∷ record { limit = 3; bytes = text "[12]"; outputs = refused TooLong ∷ []; end = skipping }
    ∷ record { limit = 2; bytes = text "[1" ++ (0 ∷ []); outputs = refused NotText ∷ []; end = between }
    ∷ record { limit = 0; bytes = text "[" ++ (0 ∷ text "x"); outputs = refused TooLong ∷ refused NotText ∷ []; end = skipping }
    -- levels
    ∷ record { limit = 64; bytes = brackets 33; outputs = refused TooDeep ∷ []; end = skipping }
    ∷ record { limit = 64; bytes = brackets 32 ++ text "}"; outputs = refused NotText ∷ []; end = skipping }
    -- surrogates
    ∷ record { limit = 64; bytes = text "[\"\\uD83D\\uDE00\",-0.5e+1,null]"; outputs = message (text "[\"\\uD83D\\uDE00\",-0.5e+1,null]") ∷ []; end = between }
    ∷ record { limit = 64; bytes = text "[\"\\uDC"; outputs = refused NotText ∷ []; end = skipping }
    ∷ []

pub given-outputs : map (λ v. (ran v).outputs) vectors ≡ map (λ v. v.outputs) vectors
unfolding run
given-outputs = refl

pub given-ends : map (λ v. end_of (ran v).standing (ran v).buffer) vectors ≡ map (λ v. v.end) vectors
unfolding run
given-ends = refl
