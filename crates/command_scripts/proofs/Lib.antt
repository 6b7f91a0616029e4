pub mod Taken
pub mod Scripts
pub mod Endings
pub mod Unplayed
