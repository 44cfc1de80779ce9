pub mod Allowed
pub mod Turns
pub mod Walked
pub mod Advancing
pub mod Ordered
