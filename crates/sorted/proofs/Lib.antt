-- Laws of the order, of sorted lists, and of the first that repeats one before it.
pub mod OrderLaws
pub mod ListLaws
pub mod RepeatLaws
