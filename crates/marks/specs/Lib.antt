-- What the contracts and laws of the marks cite.
pub mod Marks
