-- What the contracts of the resolver cite. Resolves says what it does; Lookups, Steps and Discriminators say how, one function each.
pub mod NamedWords
pub mod Resolves
pub mod Lookups
pub mod Steps
pub mod Discriminators
