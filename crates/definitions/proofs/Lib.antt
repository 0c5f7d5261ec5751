-- Laws of reading definitions.
pub mod Stores
pub mod NameLaws
pub mod ShapeLaws
pub mod ChildLaws
pub mod ListLaws
pub mod Options
pub mod CountLaws
pub mod BodyLaws
pub mod UnionLaws
pub mod CommandLaws
pub mod KindLaws
pub mod TreeSizes
pub mod TableLaws
