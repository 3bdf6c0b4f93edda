-- The exact cast agrees with the mesh cast outside the open cases of M-112. Assumes nothing.
pub mod Crossings
pub mod Points
pub mod Readings
pub mod Ranges
pub mod Means
pub mod Sides
pub mod Ends
pub mod Touching
pub mod Agreeing
