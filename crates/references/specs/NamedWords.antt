-- Serves contracts: the words of a row that name something, counted from 0. The laws say that they are those of rules Rows.
use Rattle.std.specs.Prelude.{ℕ}

abbrev pub base_word : ℕ
base_word = 4

abbrev pub type_word : ℕ
type_word = 3

abbrev pub branch_word : ℕ
branch_word = 3

abbrev pub owner_word : ℕ
owner_word = 3

abbrev pub returns_word : ℕ
returns_word = 5

abbrev pub discriminator_word : ℕ
discriminator_word = 5
