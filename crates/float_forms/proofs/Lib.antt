-- Laws about the floats of each form. Assumes nothing.
pub mod FormLaws
pub mod Numbers
pub mod Patterns
pub mod WordLaws
pub mod PlaceLaws
pub mod RunLaws
pub mod RunSteps
pub mod RepresentableLaws
pub mod Narrow
pub mod Shorts
