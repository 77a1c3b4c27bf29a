-- What only stands between the step of kind 05 and the bench.
pub mod Asking
