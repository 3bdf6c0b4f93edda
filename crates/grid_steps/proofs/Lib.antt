-- The laws of a ray's steps, beside the functions' own proofs. Assumes nothing.
pub mod NodeLaws
