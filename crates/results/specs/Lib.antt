-- The numbers that the calls answer, and what their result slices hold. Definitions only. Assumes nothing.
pub mod Results
