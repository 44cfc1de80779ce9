pub mod Advancing
pub mod Planned
pub mod Asking
