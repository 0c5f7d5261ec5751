-- Serves contracts and proofs: answers and readings as functions, rows as they are first written, rows as entries, values in order. Nobody has to believe these.
pub mod RawTable
pub mod Cells
pub mod ReadingOf
pub mod Answers
pub mod Order
