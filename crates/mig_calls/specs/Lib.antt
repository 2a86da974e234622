pub mod Calling
pub mod Fits
pub mod Joining
pub mod Leading
pub mod Making
pub mod Order
pub mod Pins
pub mod Rows
