-- What the casts of slices answer. Definitions only. Assumes nothing.
pub mod Slices
