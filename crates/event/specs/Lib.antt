pub mod Setup
pub mod Sample
pub mod Event
pub mod Kind
pub mod Reply
