pub mod Commands
pub mod Drafts
pub mod Faults
pub mod Files
pub mod Settings
pub mod Words
