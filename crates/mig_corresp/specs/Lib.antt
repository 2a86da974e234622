pub mod Coding
pub mod Correspondences
pub mod Pairs
pub mod Ranked
pub mod RankerInside
pub mod Used
pub mod Weights
