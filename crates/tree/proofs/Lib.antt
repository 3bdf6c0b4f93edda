-- Laws about meshes and trees in lent areas. Assumes nothing.
pub mod Corners
pub mod Boxes
pub mod Lengths
