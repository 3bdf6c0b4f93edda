-- The nearest of many triangles. Definitions only. Assumes nothing.
pub mod Nearest
pub mod Summary
pub mod Deferred
