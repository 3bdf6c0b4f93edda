-- Laws about hits sorted by depth. Assumes nothing.
pub mod Copying
pub mod Merging
pub mod Sorting
pub mod OrderLaws
