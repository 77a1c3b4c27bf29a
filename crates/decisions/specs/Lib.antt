-- What the decisions' contracts cite.
pub mod Chains
