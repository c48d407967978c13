pub mod Service
pub mod Traces
pub mod Kept
