pub mod Parts
pub mod Rewriting
pub mod Slots
pub mod Writing
