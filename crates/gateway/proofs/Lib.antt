-- The outcomes in numbers, and what the calls owe.
pub mod Outcomes
pub mod Promises
pub mod StreamPromises
