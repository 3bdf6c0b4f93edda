-- A distance grid and the cell at a point of it, after document 01's 'Grid hits'. Definitions only. Assumes nothing.
pub mod Grid
pub mod Places
pub mod Faces
pub mod Steps
pub mod Sampling
pub mod Valued
