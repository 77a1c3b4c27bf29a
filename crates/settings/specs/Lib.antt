-- What the contracts and laws of the settings cite.
pub mod Accepted
pub mod Between
pub mod Cases
pub mod Settings
