pub mod Numbers
pub mod Fields
pub mod Writing
pub mod Long
