-- The laws of the cast at a cabinet. Assumes nothing.
pub mod PartLimits
pub mod Limits
pub mod Alone
pub mod Numbers
pub mod Promises
pub mod Refusals
pub mod PartSteps
pub mod LookTests
pub mod Idle
pub mod LastAnswer
pub mod Passes
pub mod NearestParts
pub mod PartAnswers
pub mod PartWalks
pub mod Roots
