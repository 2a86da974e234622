mod Arguments
pub mod Callable
mod Collect
mod Counted
pub mod Ended
pub mod EqualBags
pub mod Numbers
mod Ordered
pub mod Played
mod Records
pub mod RunLemmas
mod Sorting
mod Sound
pub mod StepLemmas
mod Written
