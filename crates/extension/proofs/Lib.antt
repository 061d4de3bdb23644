pub mod ExtendedEntries
pub mod Laws
