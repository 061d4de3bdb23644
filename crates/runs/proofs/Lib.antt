pub mod Pieces
pub mod Runs
pub mod Walks
pub mod Order
