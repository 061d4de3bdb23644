pub mod Climbing
