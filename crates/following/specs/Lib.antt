-- What only stands between the functions that follow a run; what a run means stands in `bench_meaning/specs/Run.antt`.
pub mod Following
