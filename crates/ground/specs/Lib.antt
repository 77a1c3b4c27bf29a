-- Definitions that every layer's specs/ share.
pub mod Eight
pub mod First
pub mod Pick
pub mod Table
