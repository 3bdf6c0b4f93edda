-- What `probe` does between its reads and its writes. Definitions only. Assumes nothing.
pub mod Runs
