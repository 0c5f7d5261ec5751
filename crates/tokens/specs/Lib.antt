pub mod NodeKinds
pub mod Tokens
pub mod TokenParts
pub mod Numbers
