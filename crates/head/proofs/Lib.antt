-- Laws of the head that its functions' proofs and its callers share.
pub mod Decided
pub mod Heads
pub mod Lowered
pub mod Marks
pub mod Sequence
pub mod Timers
