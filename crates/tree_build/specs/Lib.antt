-- The build of a tree. Definitions only. Assumes nothing.
pub mod Shape
pub mod Ranges
pub mod Build
pub mod Node
