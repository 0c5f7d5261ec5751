-- Serves contracts and proofs: nobody has to believe it. The reader of streams as functions; the proofs show that they give what Stream allows.
pub mod Modes
pub mod Feeding
pub mod States
pub mod Contracts
