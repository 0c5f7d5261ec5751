-- Serves contracts: spans of a text, their order, lists of their numbers, and the first that repeats one before it.
pub mod Spans
pub mod Orders
pub mod Lists
pub mod Repeats
