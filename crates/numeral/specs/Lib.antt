pub mod Number
pub mod Found
