-- What the contracts of the message call and its stages cite.
pub mod Envelopes
pub mod Commands
pub mod Asking
pub mod Stages
