-- What the theorems about whole runs speak through.
pub mod Accepted
pub mod Account
pub mod Calculated
pub mod Calls
pub mod Runs
