pub mod Naming
pub mod Statuses
pub mod Outcomes
pub mod Echoing
pub mod NotedCommands
