pub mod Alike
pub mod Once
pub mod Tables
pub mod Viewed
