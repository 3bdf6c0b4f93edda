-- Laws of moved lists and of copying. Assumes nothing.
pub mod MovedLists
pub mod CopyLaws
pub mod JoinLaws
