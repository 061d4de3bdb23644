pub mod Apics
pub mod Enabled
