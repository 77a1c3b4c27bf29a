-- What the head's contracts and laws cite.
pub mod Cases
pub mod Marks
pub mod Sequence
pub mod Timers
