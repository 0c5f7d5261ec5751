-- In the order of the argument: text, labels, types, open records, and the tree.
pub mod ShownLaws
pub mod BackLaws
pub mod LabelLaws
pub mod TypeLaws
pub mod NestLaws
pub mod TreeLaws
pub mod Indents
pub mod Printable
pub mod Cases
