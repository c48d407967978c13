pub mod Inverse
pub mod Tenths
pub mod Events
