-- Laws about the lines for a part of the input, and about records of either version. Assumes nothing.
pub mod StreamLaws
pub mod StepLaws
pub mod LoopLaws
pub mod Versions
