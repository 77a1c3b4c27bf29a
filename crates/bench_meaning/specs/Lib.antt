-- What the bench means, which a reader has to believe: the state, the step for each kind of record, and the run over a whole input.
pub mod Run
pub mod State
pub mod Step
