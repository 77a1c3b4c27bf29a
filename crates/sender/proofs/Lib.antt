-- Laws of the sender.
pub mod Decided
pub mod Sending
