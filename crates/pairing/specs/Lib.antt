pub mod Pairing
pub mod Answer
pub mod Sweep
