-- Laws about the listing of all exact hits. Assumes nothing.
pub mod OpenedSteps
pub mod LineWalks
pub mod LineSafety
pub mod OpenedState
pub mod KeptLists
pub mod WholeListing
pub mod BelowCount
pub mod Listings
pub mod Promises
