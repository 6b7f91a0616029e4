pub mod Counts
pub mod MemoryShelves
pub mod Shelves
