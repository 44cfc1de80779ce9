pub mod Ranges
pub mod Geometry
