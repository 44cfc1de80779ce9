pub mod Laws
pub mod Split
pub mod Passing
pub mod Keeping
