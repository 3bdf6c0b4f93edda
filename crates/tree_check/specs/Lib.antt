-- The tree check: its clauses, its answer, and what one step of the code decides. Definitions only. Assumes nothing.
pub mod Check
pub mod Verdict
pub mod Steps
pub mod Marks
pub mod Sound
