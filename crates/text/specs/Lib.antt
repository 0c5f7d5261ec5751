-- What nodes hold, what whole texts and repeated keys are told by them; the others serve the inner functions.
pub mod Nodes
pub mod Containers
pub mod Readers
pub mod Texts
pub mod Fields
pub mod Index
pub mod Search
pub mod Keys
