-- The laws of the height grid, beside the functions' own proofs. Assumes nothing.
pub mod Sizes
pub mod CellPass
pub mod ApartCells
pub mod ListingPass
pub mod Ranges
pub mod SignedForms
