pub mod Deliveries
pub mod Delivering
pub mod Lists
pub mod Pushing
pub mod Routes
pub mod Turns
pub mod Views
