pub mod Computed
pub mod Printed
pub mod Cases
pub mod Slots
pub mod Defaults
pub mod Renumber
pub mod Book
pub mod Bench
