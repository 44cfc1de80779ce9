pub mod Parts
pub mod Moves
pub mod Runs
pub mod Chains
pub mod Sectors
