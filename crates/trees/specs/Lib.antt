-- What a reader must believe of the lines of a tree. Serving has what only contracts and proofs cite.
pub mod Escapes
pub mod Backwards
pub mod Labelling
pub mod Typing
pub mod Nesting
pub mod TreeText
pub mod Serving
