pub mod Drafting
pub mod Fixed
pub mod Inverting
pub mod Items
pub mod Ranking
pub mod Refusing
pub mod Single
pub mod Stepping
