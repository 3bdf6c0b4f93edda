-- What a drill's call answers and writes, and the call of many drills. Definitions only. Assumes nothing.
pub mod Returned
pub mod Many
