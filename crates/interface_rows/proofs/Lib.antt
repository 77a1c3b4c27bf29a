-- Laws of the rows and of their stacks.
pub mod Decided
pub mod Numbers
pub mod Rows
pub mod Stack
