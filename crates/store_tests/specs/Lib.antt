pub mod Notes
pub mod Keeping
pub mod Holding
