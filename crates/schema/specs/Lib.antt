-- What the contracts of the compile call and its stages cite.
pub mod Stages
