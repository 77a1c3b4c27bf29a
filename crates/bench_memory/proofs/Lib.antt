-- Laws from what each kind's function does to values and arrays to what the bench means.
pub mod Answered
pub mod EachKind
pub mod Places
pub mod Stepping
pub mod WaitLaws
