-- Laws about the definitions of boxes and rays. Assumes nothing.
pub mod BoxLaws
pub mod UnitLength
pub mod Differences
pub mod RangeLaws
