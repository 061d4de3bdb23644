pub mod Amended
pub mod Tested
