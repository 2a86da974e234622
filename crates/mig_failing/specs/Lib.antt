pub mod Blaming
pub mod Failing
pub mod Made
pub mod Playing
pub mod Tests
