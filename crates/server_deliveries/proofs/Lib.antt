mod Others
pub mod DeliveryLemmas
pub mod Filled
pub mod Keyed
pub mod PushLemmas
pub mod Reaching
pub mod Steered
pub mod TurnLemmas
pub mod Tying
