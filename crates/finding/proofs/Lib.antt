pub mod Spots
pub mod Told
