pub mod Names
pub mod Refusing
pub mod Long
