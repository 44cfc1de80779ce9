pub mod Sanity
