pub mod AllTrees
pub mod Covering
pub mod Listed
pub mod OneAnswer
pub mod Reach
pub mod Steps
pub mod Takes
pub mod Within
