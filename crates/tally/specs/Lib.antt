pub mod Tally
pub mod Steps
