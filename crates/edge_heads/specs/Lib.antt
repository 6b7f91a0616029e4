pub mod Headers
pub mod Rules
pub mod Heads
pub mod Targets
pub mod Bodies
pub mod Parsing
pub mod Finds
pub mod Places
