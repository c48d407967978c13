pub mod Weight
pub mod Mean
pub mod Cases
