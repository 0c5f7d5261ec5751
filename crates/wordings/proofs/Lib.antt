-- Lines put piece by piece, what may go to a terminal, and how wide it is.
pub mod ExcerptLaws
pub mod HeadLaws
pub mod Printable
pub mod Narrow
