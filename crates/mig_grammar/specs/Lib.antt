pub mod ReadingConditions
pub mod ReadingFunctions
pub mod ReadingJobs
pub mod ReadingSchemas
pub mod ReadingTokens
pub mod Shapes
pub mod Spelling
pub mod Texts
