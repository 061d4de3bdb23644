pub mod Once
pub mod Pairs
pub mod Bodies
pub mod Listed
pub mod Rules
pub mod Reading
pub mod Laws
