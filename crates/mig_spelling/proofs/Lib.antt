pub mod Columns
pub mod Completions
pub mod Scalars
pub mod Texts
pub mod Tokens
