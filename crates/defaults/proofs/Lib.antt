pub mod Laws
pub mod Pieces
pub mod Calls
