-- Laws of lists of words.
pub mod WordLaws
