pub mod BrokenPlace
pub mod Valid
