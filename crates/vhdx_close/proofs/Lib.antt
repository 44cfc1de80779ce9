pub mod Doing
pub mod Answering
