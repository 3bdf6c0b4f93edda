-- Laws of the order of triangles on an axis. Assumes nothing.
pub mod BeforeLaws
pub mod SelectLaws
pub mod Sides
pub mod Lent
