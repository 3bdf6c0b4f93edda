-- Whole numbers of 192 digits with a sign. Definitions only. Assumes nothing.
pub mod Value
pub mod Steps
pub mod Division
pub mod Guess
pub mod Sizes
pub mod Determinant
pub mod Triples
pub mod LongValue
