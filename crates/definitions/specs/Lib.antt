-- What the contracts of the readers of definitions cite.
pub mod Puts
pub mod Places
pub mod Written
pub mod Parts
