-- What the contracts of reading cite, and the layout of a frame.
pub mod Layout
pub mod Read
