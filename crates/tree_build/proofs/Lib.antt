-- The laws of the build, beside the functions' own proofs. Assumes nothing.
pub mod Alikeness
pub mod Outcomes
pub mod Readback
pub mod Recursion
pub mod Shapes
