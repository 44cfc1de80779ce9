pub mod Laws
pub mod Entrywise
