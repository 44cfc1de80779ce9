pub mod Close
pub mod Calls
pub mod Failures
pub mod Safety
