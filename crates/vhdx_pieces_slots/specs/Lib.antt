pub mod Slots
pub mod Loading
