pub mod Simulating
pub mod TakingScripts
pub mod Storming
pub mod Outcomes
