-- What the recorder's contracts and laws cite.
pub mod Cases
pub mod Watching
