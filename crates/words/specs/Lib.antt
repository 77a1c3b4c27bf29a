-- What the contracts of the words cite.
pub mod Words
