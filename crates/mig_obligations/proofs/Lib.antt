pub mod ProperObligations
pub mod Reached
pub mod Replayed
