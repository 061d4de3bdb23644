pub mod Wrote
pub mod Entry
