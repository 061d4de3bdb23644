pub mod Roll
pub mod Calls
