-- What a mesh and its tree hold: the layout, triangles' boxes and answers. Definitions only. Assumes nothing.
pub mod Layout
pub mod Mesh
