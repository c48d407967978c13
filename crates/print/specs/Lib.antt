pub mod Text
pub mod Reply
pub mod Sheet
pub mod Written
pub mod Steps
