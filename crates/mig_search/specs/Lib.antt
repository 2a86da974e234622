pub mod Blaming
pub mod Blocking
pub mod Finds
pub mod Judging
pub mod Looking
pub mod Outcomes
pub mod Stopping
