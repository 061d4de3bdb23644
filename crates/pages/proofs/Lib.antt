pub mod Bytes
pub mod Editions
pub mod Placed
pub mod Good
pub mod Again
pub mod Grown
pub mod Answered
