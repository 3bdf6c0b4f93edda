-- The laws of the walk, beside the functions' own proofs. Assumes nothing.
pub mod Places
pub mod FewPlaces
pub mod Opening
pub mod Children
pub mod OpenNodes
pub mod Branches
pub mod Nodes
pub mod Walks
pub mod Limits
pub mod Gathering
