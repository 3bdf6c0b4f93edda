-- The query. Definitions only. Assumes nothing.
pub mod Query
