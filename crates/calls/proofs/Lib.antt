pub mod Lines
pub mod Traced
pub mod Kept
pub mod Room
