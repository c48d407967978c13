pub mod Past
pub mod Each
pub mod Pairs
pub mod Places
pub mod Counts
