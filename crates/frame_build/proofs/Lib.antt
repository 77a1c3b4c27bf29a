-- Laws of building, and the round trip.
pub mod Building
pub mod Decided
pub mod RoundTrip
