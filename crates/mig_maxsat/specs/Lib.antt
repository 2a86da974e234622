pub mod Bounds
pub mod Heaviest
pub mod Losses
pub mod Rivals
pub mod Scouting
