pub mod Dead
pub mod Implied
pub mod Lifted
pub mod Rejoined
pub mod Same
pub mod Split
