-- What a reader must believe of both programs. Serving has what only contracts and proofs cite.
pub mod Program
pub mod Serving
