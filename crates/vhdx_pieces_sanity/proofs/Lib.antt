pub mod Deciding
pub mod Decided
