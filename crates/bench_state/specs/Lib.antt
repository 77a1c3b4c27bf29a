-- What only stands between the steps of each kind and the bench: how arrays and values change where a record is accepted.
pub mod Answered
