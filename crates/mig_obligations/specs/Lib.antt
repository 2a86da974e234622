pub mod Fitting
pub mod Forming
pub mod Obligations
pub mod Pairs
pub mod Replay
pub mod Settings
pub mod Shaped
