-- Laws about a run of `probe`. Assumes nothing.
pub mod Returns
pub mod RunLaws
pub mod Known
pub mod Moves
