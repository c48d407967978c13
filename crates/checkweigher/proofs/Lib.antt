pub mod Prints
pub mod Traced
