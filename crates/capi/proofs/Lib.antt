pub mod Slots
pub mod Told
