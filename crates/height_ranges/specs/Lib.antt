-- The cast at heights known only within ranges, and what it says of every grid within them. Definitions only. Assumes nothing.
pub mod Answer
pub mod Ranges
pub mod RangesCast
pub mod Pass
pub mod Promise
