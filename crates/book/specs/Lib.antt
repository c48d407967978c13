pub mod Book
pub mod Page
pub mod Boxes
pub mod Laws
