pub mod Writes
pub mod Planned
