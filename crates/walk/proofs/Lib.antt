-- Laws of a walk.
pub mod Decided
pub mod WalkLaws
pub mod Walking
