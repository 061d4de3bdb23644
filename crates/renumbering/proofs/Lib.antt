pub mod Laws
pub mod Loops
pub mod Answering
