pub mod Classes
pub mod Deciding
pub mod Forests
pub mod Given
pub mod Keys
pub mod Laws
pub mod Substituted
pub mod Worked
