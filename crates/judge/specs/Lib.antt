pub mod Placed
pub mod Rolled
pub mod Stages
