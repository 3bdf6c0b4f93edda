-- The triangle cast on whole millimetres, from exact floats up to the promise. Assumes nothing.
pub mod Whole
pub mod Vectors
pub mod Quotients
pub mod Decisions
pub mod Sums
pub mod Drawings
pub mod Flat
pub mod Admitted
pub mod Polynomials
pub mod Cramer
pub mod Casting
pub mod WholeTriangles
pub mod WholeMeshes
pub mod Examples
pub mod WholeReturned
