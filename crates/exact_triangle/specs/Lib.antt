-- The exact cast in any direction, on a grid of 2^-15 mm. Definitions only. Assumes nothing.
pub mod Line
pub mod Shear
pub mod Surface
pub mod Grid
pub mod Box
pub mod Sizes
pub mod View
pub mod Reach
pub mod Normal
pub mod Cast
pub mod Certain
pub mod CrossingDistance
