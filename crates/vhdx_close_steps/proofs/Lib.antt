pub mod Again
pub mod Histories
pub mod Order
pub mod Safety
