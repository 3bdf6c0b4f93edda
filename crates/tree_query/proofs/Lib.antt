-- The laws of the query, beside the functions' own proofs. Assumes nothing.
pub mod SortedWalks
pub mod Queries
