pub mod Faithfully
pub mod Advancing
pub mod Answering
