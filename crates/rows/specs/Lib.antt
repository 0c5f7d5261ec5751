-- What the contracts cite.
pub mod Rows
pub mod Hashes
pub mod Index
