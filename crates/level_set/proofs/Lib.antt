-- The laws of the walk over a distance grid, beside the functions' own proofs. Assumes nothing.
pub mod SampleLaws
pub mod WalkLaws
