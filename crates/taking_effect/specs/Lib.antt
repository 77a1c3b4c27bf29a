-- What only stands between the step of kind 06 and the bench.
pub mod Effect
