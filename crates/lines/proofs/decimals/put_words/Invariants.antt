-- the first words are put
use Prim.Native.Nat.{◌≤◌, ◌+◌, ◌*◌}
use mathlib.Core.Path.{◌≡◌}
use mathlib.Core.List.{◌++◌}
use lib.ListN.{length, take}
use Rattle.lines.specs.Text.{spaced_text}
use Rattle.lines.specs.Serving.Rooms.{word_room}
use Rattle.lines.proofs.decimals.put_words.Given as goal

abbrev pub invariant-loop-word : goal.invariant-loop-word
invariant-loop-word g l = record {
  puts : l.out ≡ l.initial.out ++ spaced_text (take l.word-index l.words);
  few : length l.out ≤ length l.initial.out + word_room * l.word-index;
}
