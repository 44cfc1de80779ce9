pub mod Header
pub mod Current
