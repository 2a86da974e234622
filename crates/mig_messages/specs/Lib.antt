pub mod CallLines
pub mod Entries
pub mod Lines
pub mod Statuses
pub mod VerdictLines
