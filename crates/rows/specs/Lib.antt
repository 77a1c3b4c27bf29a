-- What the contracts and laws of rows cite. None of it needs to be believed: laws tie it to what the bench means.
pub mod Rows
