-- Lines put together over reads, the answers of both styles, the input answered line by line, the records shown, how a run begins, the whole of a run, the places printed, P1.
pub mod JoinLaws
pub mod AnswerLaws
pub mod StepLaws
pub mod ShowLaws
pub mod BeginningLaws
pub mod AnyReads
pub mod Places
pub mod Cases
