-- What a reader must believe of numbers and lines as text. Serving has what only contracts and proofs cite.
pub mod Text
pub mod Lines
pub mod Serving
