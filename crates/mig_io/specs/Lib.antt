pub mod Counts
pub mod MemFiles
pub mod MemSink
pub mod RealSink
pub mod Shelf
pub mod Taken
pub mod Told
