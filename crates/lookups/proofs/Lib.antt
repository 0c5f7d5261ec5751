-- Laws of looking into nodes.
pub mod NodeLaws
pub mod TokenLaws
pub mod FieldLaws
pub mod KeyCounts
