-- Laws of the tree check, beside the functions' own proofs. Assumes nothing.
pub mod Answers
pub mod EachOf
pub mod Clauses
pub mod Holds
pub mod Passes
pub mod Counting
pub mod Held
pub mod OnceEach
pub mod Pigeonhole
pub mod Tally
pub mod Sound
pub mod Balance
