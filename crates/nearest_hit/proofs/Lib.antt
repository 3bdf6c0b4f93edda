-- Laws about the nearest of many triangles. Assumes nothing.
pub mod IndexedCases
pub mod IndexedHits
pub mod NextLaws
pub mod NearestRefusals
pub mod NearestHits
pub mod NearestLaws
pub mod KeptLaws
pub mod SummaryOrder
pub mod SummaryLaws
pub mod SummaryMembers
pub mod DeferredLaws
