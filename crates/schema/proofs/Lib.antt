-- Laws of the compile call.
pub mod StageLaws
pub mod TextLaws
pub mod Demand2
