-- The layout of a record of `probe`, byte by byte, after document 01's 'Printed result'. Definitions only. Assumes nothing.
pub mod Records
pub mod Kinds
pub mod Plans
pub mod Stream
