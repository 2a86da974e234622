pub mod First
pub mod Follow
pub mod Keeping
pub mod Laws
pub mod Offered
pub mod Quiet
pub mod Taking
