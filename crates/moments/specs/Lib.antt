-- What the contracts and laws of moments cite.
pub mod Moments
