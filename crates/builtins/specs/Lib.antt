-- What the contracts cite.
pub mod Kinds
pub mod Ranges
pub mod Names
