-- Laws about the casts' definitions. Assumes nothing.
pub mod SegmentBoxLaws
pub mod SideLaws
pub mod AnswerLists
pub mod HitLaws
pub mod LateTests
