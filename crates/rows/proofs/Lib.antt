-- In the order of the argument: walks and lists, rows and names, loops over rows and over children, hashes and names in an index.
pub mod WalkRuns
pub mod Walks
pub mod ListLaws
pub mod RowFacts
pub mod NameFacts
pub mod LoopLaws
pub mod ChildLaws
pub mod HashLaws
pub mod IndexLaws
