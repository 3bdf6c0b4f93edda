-- What the arithmetic means, after IEEE 754 and document 01's 'Arithmetic under the geometry'. Definitions only. Assumes nothing.
pub mod Basic
pub mod Below
pub mod Extremes
pub mod Root
pub mod Rounding
pub mod Ordering
pub mod Scaling
