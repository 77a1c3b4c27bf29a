-- What the contract and the laws of choice cite.
pub mod Answers
pub mod Choice
