-- The first point of a segment in a closed triangle, over the whole numbers. Definitions only. Assumes nothing.
pub mod FirstPoint
pub mod Meeting
pub mod Answer
pub mod Sizes
pub mod Sides
pub mod Orientation
pub mod Incidence
