pub mod Changing
pub mod Gathering
pub mod Naming
