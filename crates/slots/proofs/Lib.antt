pub mod Sets
pub mod Writing
pub mod Laws
pub mod Answering
