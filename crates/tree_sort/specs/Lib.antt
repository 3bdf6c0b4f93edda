-- Where a range of triangles is cut. Definitions only. Assumes nothing.
pub mod Cutting
pub mod Selecting
