-- The drill at a mesh. Definitions only. Assumes nothing.
pub mod MeshDrill
pub mod Radius
pub mod Code
pub mod Drilling
pub mod Through
pub mod AsDrawn
pub mod Part
