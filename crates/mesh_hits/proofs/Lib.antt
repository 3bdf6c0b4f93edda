-- Laws about the listing of all hits. Assumes nothing.
pub mod Listings
pub mod CountedHits
pub mod CastAmong
pub mod InDepth
pub mod OneList
pub mod Promises
pub mod RefusalNumbers
pub mod Storing
pub mod GatheredHits
pub mod Putting
pub mod HitOrder
pub mod PlaceLaws
pub mod ListedHits
pub mod Arranging
