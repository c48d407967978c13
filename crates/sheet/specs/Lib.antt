pub mod Sheet
pub mod Report
pub mod Steps
pub mod Apart
pub mod Bench
