-- Laws of the probe's proofs.
pub mod Keys
pub mod Commands
