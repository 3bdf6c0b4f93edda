-- All hits along a ray: the listing, and what a user finds in it. Definitions only. Assumes nothing.
pub mod Listing
pub mod Promise
pub mod HitArea
pub mod Rows
pub mod HitListing
