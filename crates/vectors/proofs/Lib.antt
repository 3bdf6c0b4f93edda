-- Laws about the definitions of vectors. Assumes nothing.
pub mod Constants
pub mod FiniteVectors
pub mod SquareLaws
pub mod NormalLaws
