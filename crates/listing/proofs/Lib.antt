pub mod Walk
pub mod Most
pub mod Laws
pub mod Longest
pub mod Defaults
pub mod Steps
