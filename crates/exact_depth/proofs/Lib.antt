-- Laws about the first point of a segment in a closed triangle. Assumes nothing.
pub mod Weights
pub mod Firsts
pub mod Crossed
pub mod Entering
pub mod Planes
pub mod Coplanar
pub mod FirstPoints
pub mod Standing
pub mod Laws
pub mod OneSided
pub mod Terms
pub mod LimbLaws
pub mod IncidenceLaws
