-- What the cast at a distance grid means, after document 01's 'Grid hits'. Definitions only. Assumes nothing.
pub mod Hits
pub mod Walk
