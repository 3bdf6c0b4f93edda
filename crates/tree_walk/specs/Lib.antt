-- The walk of a tree, and the walk under a limit. Definitions only. Assumes nothing.
pub mod Walk
pub mod Areas
pub mod Looking
pub mod LookAreas
pub mod Opening
