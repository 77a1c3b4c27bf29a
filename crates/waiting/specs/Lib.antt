-- What only stands between the step of kind 01 and the bench.
pub mod Waiting
