-- What holds of the casts at the grids beside their contracts. Assumes nothing.
pub mod HeightHits
pub mod HeightExamples
pub mod RangesExamples
pub mod RangesInstances
pub mod SlabLaws
pub mod RootsBetween
pub mod WayParts
pub mod HitDistances
pub mod ClampedLaws
pub mod AxisLaws
pub mod ClampedPlaces
pub mod FiveLaws
pub mod RefusingLaws
pub mod DistanceExamples
pub mod ClampedExamples
pub mod FiveInstances
pub mod NearExamples
