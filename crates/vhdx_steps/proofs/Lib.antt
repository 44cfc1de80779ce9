pub mod Bytes
pub mod Every
pub mod Restart
pub mod Sectors
pub mod Reading
pub mod Losses
