-- Reference, Rows: the kinds of rows. The kind of a row's children is the one after its own.
use Rattle.std.specs.Prelude.{ℕ}

abbrev pub enum_kind : ℕ
enum_kind = 1

abbrev pub value_kind : ℕ
value_kind = 2

abbrev pub struct_kind : ℕ
struct_kind = 3

abbrev pub member_kind : ℕ
member_kind = 4

abbrev pub union_kind : ℕ
union_kind = 5

abbrev pub branch_kind : ℕ
branch_kind = 6

abbrev pub alternate_kind : ℕ
alternate_kind = 7

abbrev pub alternative_kind : ℕ
alternative_kind = 8

abbrev pub command_kind : ℕ
command_kind = 9
