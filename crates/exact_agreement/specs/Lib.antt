-- The exact cast beside the mesh cast. Definitions only. Assumes nothing.
pub mod Agreement
