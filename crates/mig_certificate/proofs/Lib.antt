pub mod SameTests
pub mod Shown
pub mod Unbroken
