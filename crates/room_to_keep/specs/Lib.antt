-- What the contract of `keep` cites.
pub mod Keep
