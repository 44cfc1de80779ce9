pub mod Rewrite
pub mod Writing
