-- Whether a drill touches a triangle, over the whole numbers. Definitions only. Assumes nothing.
pub mod Drill
pub mod Decision
pub mod Box
pub mod Sizes
pub mod Code
