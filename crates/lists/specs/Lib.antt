-- Lists of indices and of floats, the merge of two sorted ones, how deep a recursion goes that cuts a range, and tests in their order.
-- Definitions only. Assumes nothing.
pub mod Lists
pub mod Merge
pub mod CutDepth
pub mod Refusals
