-- Laws of keys and of a range's fold, beside the functions' own proofs. Assumes nothing.
pub mod KeyLaws
pub mod PlainNumbers
pub mod PlainExtremes
pub mod Resorting
pub mod Unseen
