pub mod Filling
pub mod Keys
