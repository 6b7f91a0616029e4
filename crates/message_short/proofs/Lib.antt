pub mod Fronts
pub mod Groups
pub mod Columns
pub mod Told
