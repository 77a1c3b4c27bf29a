-- The table of document 01's proved cases.
pub mod Table
