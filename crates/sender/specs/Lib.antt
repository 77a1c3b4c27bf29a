-- What the sender's contracts cite.
pub mod Sender
