pub mod Facts
pub mod Tests
