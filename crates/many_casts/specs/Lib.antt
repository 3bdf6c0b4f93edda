-- What the calls with many rays answer. Definitions only. Assumes nothing.
pub mod Many
pub mod Ready
