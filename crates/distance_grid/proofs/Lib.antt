-- The laws of a distance grid's places, beside the functions' own proofs. Assumes nothing.
pub mod GridLaws
pub mod CellLaws
pub mod NearLaws
pub mod PlaceLaws
pub mod ValuedLaws
