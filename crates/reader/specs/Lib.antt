pub mod Reading
pub mod Walked
