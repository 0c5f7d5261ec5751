-- What the contracts cite: the index of long lists of children, how it is filled and looked up, and what is found of a row's children.
pub mod Counts
pub mod Index
pub mod Filling
pub mod Children
pub mod Lookup
