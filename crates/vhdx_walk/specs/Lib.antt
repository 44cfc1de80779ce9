pub mod Entries
pub mod Bytes
pub mod Cursor
pub mod Walk
