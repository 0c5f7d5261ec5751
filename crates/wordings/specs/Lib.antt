-- What a reader must believe of answers in words. Serving has what only contracts and proofs cite.
pub mod Excerpts
pub mod Wordings
pub mod Serving
