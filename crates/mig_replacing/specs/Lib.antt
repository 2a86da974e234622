pub mod Given
pub mod Places
pub mod Reaching
pub mod Replaced
pub mod Worked
