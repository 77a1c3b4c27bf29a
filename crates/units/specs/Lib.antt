-- What the units' contracts cite.
pub mod Counts
pub mod Units
