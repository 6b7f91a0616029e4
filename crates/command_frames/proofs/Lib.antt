pub mod Decided
pub mod Meaning
pub mod Histories
pub mod Endings
pub mod Refusals
pub mod Unread
pub mod PlainFrames
pub mod Glances
