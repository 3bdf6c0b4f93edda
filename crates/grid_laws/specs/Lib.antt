-- What is promised of the cast at a distance grid beside its contract. Definitions only. Assumes nothing.
pub mod Clamping
pub mod Refusing
