pub mod Root
pub mod Figures
pub mod Theorem
pub mod Wide
