-- What the contracts of the headroom sum cite. `Stages` only stands between the functions of `sum`; the others are to be believed.
pub mod Cases
pub mod Headroom
pub mod Link
pub mod Rates
pub mod Stages
pub mod Sum
