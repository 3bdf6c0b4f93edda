-- What is certain on whole millimetres. Definitions only. Assumes nothing.
pub mod Points
pub mod WholeTriangle
pub mod WholeMesh
pub mod Returned
