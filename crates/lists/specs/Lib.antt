pub mod Each
pub mod Places
pub mod Sums
pub mod Counts
