pub mod Entry
pub mod Lookup
pub mod Dependence
