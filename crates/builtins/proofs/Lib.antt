-- The laws of each file.
pub mod NameLaws
pub mod KindLaws
