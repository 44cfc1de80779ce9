pub mod Laws
pub mod Dependence
pub mod Examples
