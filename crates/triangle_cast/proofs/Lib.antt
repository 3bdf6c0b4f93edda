-- Laws about the triangle cast's definitions. Assumes nothing.
pub mod FlatLaws
pub mod ReachLaws
pub mod TriangleHits
