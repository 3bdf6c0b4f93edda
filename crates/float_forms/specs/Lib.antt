-- Floats of 8 bytes and of 4, in a record's bytes. Definitions only. Assumes nothing.
pub mod Forms
pub mod Words
pub mod Bytes
pub mod Representable
pub mod Short
