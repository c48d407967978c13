pub mod Facts
pub mod Ones
pub mod Added
