pub mod Moves
pub mod Stores
pub mod Tests
pub mod Laws
