-- What only stands between the report and a run; what a report tells stands in `bench_meaning/specs/Run.antt`.
pub mod Reporting
