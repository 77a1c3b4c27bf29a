-- Laws about what a frame is read as.
pub mod Decided
pub mod Reading
