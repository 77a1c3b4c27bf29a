-- Laws of the words.
pub mod Decided
pub mod Numbers
pub mod Reading
