-- Indices moved up. Definitions only. Assumes nothing.
pub mod Moved
pub mod Sizes
