-- What the first root of the cubic through four samples means, after document 01's 'Grid hits'. Definitions only. Assumes nothing.
pub mod Polynomial
pub mod Turns
pub mod Halving
pub mod Roots
