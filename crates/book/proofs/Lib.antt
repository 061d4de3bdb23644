pub mod Laws
pub mod Answering
