-- What a reader must believe of the reader of records.
pub mod Seeing
pub mod Walk
