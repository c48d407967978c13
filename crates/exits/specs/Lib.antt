pub mod Memory
pub mod Session
