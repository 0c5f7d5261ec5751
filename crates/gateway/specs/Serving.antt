-- Serves contracts: the outcomes as equations. Nobody has to believe them: proofs/Promises has what Calls says, from these.
pub mod Outcomes
