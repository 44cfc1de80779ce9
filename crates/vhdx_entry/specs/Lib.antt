pub mod Ring
pub mod Entry
