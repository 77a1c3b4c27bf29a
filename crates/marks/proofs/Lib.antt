-- Laws about the marks' definitions.
pub mod Decided
pub mod DueLaws
pub mod MarkLaws
