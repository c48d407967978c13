pub mod Held
pub mod Laws
pub mod Chosen
pub mod Noted
