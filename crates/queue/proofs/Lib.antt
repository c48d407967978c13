pub mod Waits
pub mod Keeps
