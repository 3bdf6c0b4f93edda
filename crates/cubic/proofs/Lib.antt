-- The laws of the search for a root, beside the functions' own proofs. Assumes nothing.
pub mod CubicLaws
pub mod ValueLaws
pub mod UnitLaws
