pub mod Touring
