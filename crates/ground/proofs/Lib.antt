-- Laws that every layer's proofs share.
pub mod Decides
pub mod Eight
pub mod First
pub mod Parts
pub mod Passing
pub mod Pick
pub mod Tests
