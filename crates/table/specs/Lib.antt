-- What the contracts of the inner functions cite, in terms of the rules.
pub mod Definitions
pub mod Chains
pub mod RuleParts
pub mod Looks
pub mod Alternatives
pub mod Kept
