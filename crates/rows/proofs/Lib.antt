-- Laws of rows in lent arrays.
pub mod Decided
pub mod Held
pub mod Lanes
pub mod Over
pub mod Product
pub mod Shifting
pub mod Writing
