pub mod Settings
pub mod Grade
