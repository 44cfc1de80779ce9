pub mod Machines
pub mod Runs
pub mod Fed
