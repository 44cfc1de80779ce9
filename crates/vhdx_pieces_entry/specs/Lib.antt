pub mod Sector
pub mod Pass
