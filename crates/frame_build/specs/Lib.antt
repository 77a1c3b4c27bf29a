-- What the contract of building cites, and document 01's case of a frame that is built and read.
pub mod Build
pub mod Cases
