pub mod Counting
pub mod Writing
pub mod Laws
pub mod Numbers
pub mod Answering
pub mod Ways
pub mod Most
