pub mod Entries
pub mod Exchange
pub mod Sweeps
pub mod Filling
pub mod Accepted
