pub mod Work
pub mod Plan
pub mod Survey
pub mod Answers
