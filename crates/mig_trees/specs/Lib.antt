pub mod Answer
pub mod Inside
pub mod Joining
pub mod Listed
pub mod Making
pub mod Trees
pub mod Written
