pub mod Firsts
pub mod Search
pub mod Walk
pub mod Coded
pub mod Eight
