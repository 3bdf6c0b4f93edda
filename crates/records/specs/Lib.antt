-- What a record of `probe` says and the line that answers it, after document 01's 'Printed result'. Definitions only. Assumes nothing.
pub mod Shapes
pub mod MeshAnswer
pub mod Areas
pub mod Lines
pub mod Output
pub mod WorkedExample
