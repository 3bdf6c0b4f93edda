-- The walk of a tree that looks for the nearest hit. Definitions only. Assumes nothing.
pub mod FirstWalk
pub mod WalkDemand
pub mod Onward
pub mod Room
pub mod Opening
pub mod Order
pub mod Demand
pub mod Numbers
pub mod ExactMesh
pub mod Walking
pub mod Culling
pub mod AtRoot
