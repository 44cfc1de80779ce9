pub mod Bounded
pub mod Refusal
pub mod Examples
