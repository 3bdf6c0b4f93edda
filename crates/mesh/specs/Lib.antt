-- The mesh cast, and demand 3. Definitions only. Assumes nothing.
pub mod MeshCast
pub mod Demand3
pub mod Builder
pub mod Through
