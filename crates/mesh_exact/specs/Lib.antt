-- The cast of a ray in any direction at a mesh, on the grid. Definitions only. Assumes nothing.
pub mod GridCast
pub mod Bounds
pub mod Noted
pub mod Certain
