-- What a height grid is and what the cast at it answers. Definitions only. Assumes nothing.
pub mod Grid
pub mod Cells
pub mod Listing
pub mod Cast
pub mod Pass
