pub mod SeeingLaws
pub mod Walk
pub mod Cases
