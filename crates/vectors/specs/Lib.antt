-- What vectors mean, after document 01's 'Arithmetic under the geometry'. Definitions only. Assumes nothing.
pub mod Numbers
pub mod Vector
