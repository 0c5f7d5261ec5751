pub mod Walked
pub mod Cases
