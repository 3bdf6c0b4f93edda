-- The laws that the code's proofs cite, and what is certain of the answer. Assumes nothing.
pub mod SegmentSides
pub mod Ranges
pub mod Reaching
pub mod Looking
pub mod Noting
pub mod Casting
pub mod OneTriangle
pub mod TrueHits
pub mod Leasts
pub mod Refusals
pub mod Certainty
