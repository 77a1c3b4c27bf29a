-- What contracts cite where a limit decides.
pub mod Limits
