-- How a ray goes through a distance grid's box, after document 01's 'Grid hits'. Definitions only. Assumes nothing.
pub mod Slab
pub mod Cells
