-- Laws about many drills in one call. Assumes nothing.
pub mod Answers
pub mod Calls
pub mod Progress
