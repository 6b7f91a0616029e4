pub mod Words
pub mod Seen
pub mod Outcomes
pub mod Judging
pub mod Own
pub mod Usage
pub mod Notes
