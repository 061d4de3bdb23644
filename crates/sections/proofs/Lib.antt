pub mod BaseEntries
pub mod Laws
