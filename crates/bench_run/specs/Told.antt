-- Document 01, line 1 of a report: "refusal or 0": the number that is told of a refusal, if there is one.
pub use Rattle.refusals.specs.Refusals.{number_told}
