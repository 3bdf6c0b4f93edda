-- Laws about many rays in one call. Assumes nothing.
pub mod Answers
pub mod Calls
pub mod Progress
