-- Laws about numbers and answers as text. Assumes nothing.
pub mod Places
pub mod Storing
pub mod Printing
pub mod Lengths
pub mod AnswerParts
