-- What only stands between the steps of kinds 02 and 04 and the bench.
pub mod Starting
