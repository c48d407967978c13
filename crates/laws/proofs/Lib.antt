pub mod Tests
pub mod Signed
pub mod Shift
