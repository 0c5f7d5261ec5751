-- What a reader must believe is Stream. Serving serves contracts and proofs only.
pub mod Stream
pub mod Serving
