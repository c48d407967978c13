pub mod Ends
pub mod Moves
pub mod Fills
pub mod Took
pub mod Draws
pub mod Writes
pub mod Passing
