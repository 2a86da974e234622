pub mod Choices
pub mod Chosen
pub mod Finding
pub mod Fronts
pub mod Listing
pub mod Orders
pub mod Tests
