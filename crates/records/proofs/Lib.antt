-- Laws about records and lines. Assumes nothing.
pub mod Lengths
pub mod Reading
pub mod MeshAnswers
pub mod Answers
pub mod RoundTrip
