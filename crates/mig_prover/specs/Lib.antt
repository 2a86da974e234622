pub mod Closing
pub mod Proving
pub mod Rounds
pub mod Simplified
pub mod Tracing
