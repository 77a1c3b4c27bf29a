-- What the contracts of the records cite.
pub mod Records
