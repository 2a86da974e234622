pub mod Cases
pub mod Hosts
pub mod Narrowed
pub mod Stages
pub mod Unfolding
pub mod Worked
