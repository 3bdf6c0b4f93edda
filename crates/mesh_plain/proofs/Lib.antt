-- The tests of the boxes, the pass over the triangles, the agreement of the two mesh casts, and casts computed from the definitions.
-- Assumes nothing.
pub mod SameBoxes
pub mod Agreement
pub mod BoxTests
pub mod FiniteSums
pub mod CodeLaws
pub mod Passing
pub mod Casting
