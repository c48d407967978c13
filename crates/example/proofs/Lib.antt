pub mod Sheets
pub mod Fold
