-- Document 01's marked answers. Definitions only. Assumes nothing.
pub mod Cases
pub mod Table
