-- What boxes and rays mean, after document 01's 'Arithmetic under the geometry'. Definitions only. Assumes nothing.
pub mod Box
pub mod Segment
pub mod Spacing
