pub mod Faults
pub mod Job
pub mod Named
pub mod Naming
pub mod Pairs
pub mod Printable
pub mod Program
pub mod TypingFault
