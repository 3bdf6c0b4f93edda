-- What a cast answers, what casts share, and the cast at a plane. Definitions only. Assumes nothing.
pub mod Answer
pub mod SegmentBox
pub mod Reach
pub mod Surface
pub mod Plane
