pub mod OneText
pub mod Reading
pub mod Printing
pub mod Tenths
pub mod Claim
