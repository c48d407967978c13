pub mod Keeps
pub mod Alone
pub mod Found
