-- What the calls for other languages answer and write. Definitions only. Assumes nothing.
pub mod Plain
pub mod Codes
pub mod Reading
pub mod Ranges
pub mod CabinetResults
pub mod AllHits
pub mod Boards
pub mod Conversions
pub mod ExactResults
pub mod Calls
pub mod ManyRays
pub mod Drills
