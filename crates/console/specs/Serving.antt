-- Serves contracts and proofs: lines over reads, the steps from line to line, the records shown, how a run begins, a run. Nobody has to believe these.
pub mod Joining
pub mod Steps
pub mod Shows
pub mod Beginning
pub mod Runs
