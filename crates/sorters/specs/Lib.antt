pub mod Sorters
pub mod OneAlone
