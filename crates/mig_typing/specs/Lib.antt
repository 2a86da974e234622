pub mod Broken
pub mod Classes
pub mod First
pub mod Seen
