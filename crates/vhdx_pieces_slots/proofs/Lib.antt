pub mod Restored
pub mod Loads
