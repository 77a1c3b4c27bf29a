-- What the contracts of octets and their bits cite.
pub mod Numbers
