pub mod Buffer
pub mod Steps
pub mod Calls
pub mod Failures
pub mod Stepped
