-- All exact hits along a ray: the walk, the listing, and what a user finds in it. Definitions only. Assumes nothing.
pub mod LineWalk
pub mod ExactListing
pub mod Promise
pub mod Areas
