pub mod Class
pub mod Law
pub mod Part
pub mod Steps
