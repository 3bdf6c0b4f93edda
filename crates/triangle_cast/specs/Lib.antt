-- The cast at a triangle. Definitions only. Assumes nothing.
pub mod Size
pub mod Triangle
pub mod Crossing
