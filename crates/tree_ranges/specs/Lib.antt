-- A range of triangles: its box and extent, and the order of its triangles on an axis. Definitions only. Assumes nothing.
pub mod Extents
pub mod Keys
pub mod Plain
