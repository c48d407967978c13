pub mod Facts
pub mod Printed
pub mod Lists
