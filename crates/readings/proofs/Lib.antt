-- Laws that the functions cite: kinds and built-ins, types and contents.
pub mod KindLaws
pub mod TypeLaws
pub mod ContentLaws
-- The records of a reading, and the readers that call each other.
pub mod RecordLaws
pub mod ReadLaws
pub mod ItemTurns
pub mod FieldTurns
