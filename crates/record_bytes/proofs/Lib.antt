-- Laws about the bytes of records. Assumes nothing.
pub mod KindLaws
pub mod ShapeLaws
pub mod Parts
pub mod PlanLaws
pub mod Tests
pub mod Lengths
pub mod RoundTrip
pub mod Frames
