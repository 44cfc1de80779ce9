pub mod Lies
pub mod Surveys
pub mod Decisions
pub mod Answering
pub mod Examples
pub mod Again
