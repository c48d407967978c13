pub mod Put
pub mod Writes
pub mod Parts
pub mod Classes
