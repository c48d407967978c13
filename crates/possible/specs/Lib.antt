pub mod Outcome
pub mod Answer
pub mod Exact
pub mod Bounds
