-- What the contracts of the readers of arguments cite. Records says what is read; the others serve the inner functions.
pub mod Records
pub mod Parts
pub mod Readers
