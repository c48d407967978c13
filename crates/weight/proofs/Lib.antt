pub mod Sign
pub mod Nearest
pub mod Cases
