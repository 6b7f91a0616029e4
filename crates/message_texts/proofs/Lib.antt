pub mod Quotes
pub mod Lines
mod AnyLines
mod HealthLines
mod ComponentLines
mod Splits
mod Unquoted
mod Paths
mod Rows
mod Openings
mod Leaves
mod Told
