pub mod Form
pub mod Read
pub mod Views
