-- Numbers and answers as text, after document 01's 'Printed result'. Definitions only. Assumes nothing.
pub mod Text
pub mod AnswerText
