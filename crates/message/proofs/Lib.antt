-- Laws of the message call.
pub mod EnvelopeLaws
pub mod CommandLaws
pub mod AskingLaws
pub mod AnswerLaws
pub mod StageLaws
pub mod Demand3
