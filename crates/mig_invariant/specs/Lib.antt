pub mod Candidates
pub mod Columns
pub mod Images
pub mod Same
pub mod Worked
