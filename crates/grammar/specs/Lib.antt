-- What a reader must believe of texts, in the order of the reference. Serving has what only contracts and proofs cite.
pub mod Limits
pub mod Notation
pub mod Tree
pub mod Lexis
pub mod Grammar
pub mod SchemaText
pub mod MessageText
pub mod Starts
pub mod Integers
pub mod Keys
pub mod Serving
