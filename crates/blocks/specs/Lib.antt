pub mod Lines
pub mod Left
pub mod Taken
pub mod Known
