pub mod Families
pub mod Answering
pub mod Rewriting
pub mod Showing
pub mod Checking
pub mod Serving
pub mod Commands
pub mod Outcomes
