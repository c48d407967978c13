pub mod Prints
pub mod Complete
pub mod Goes
pub mod Answered
