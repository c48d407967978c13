pub mod Roots
pub mod Squares
pub mod Tallies
mod Digits
