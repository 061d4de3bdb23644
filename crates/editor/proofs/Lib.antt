pub mod Exchanges
pub mod Tests
pub mod Laws
mod Losses
pub mod ByType
mod Offsets
mod OneRoll
mod Ways
mod Numbers
