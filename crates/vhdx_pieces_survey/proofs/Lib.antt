pub mod Turns
pub mod Advancing
pub mod Toured
