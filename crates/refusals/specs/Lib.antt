-- What contracts say of refusals.
pub mod Refusals
