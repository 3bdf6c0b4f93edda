-- Laws about what the casts of slices answer. Assumes nothing.
pub mod Answers
