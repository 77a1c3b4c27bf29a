-- What only stands between the steps of kinds 03 and 07 and the bench.
pub mod Arriving
