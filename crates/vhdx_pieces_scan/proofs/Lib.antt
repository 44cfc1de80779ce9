pub mod Told
pub mod Turns
pub mod Advancing
pub mod Scanned
