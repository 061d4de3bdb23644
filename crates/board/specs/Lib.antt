pub mod Board
pub mod Cases
pub mod Slots
pub mod Renumber
pub mod Book
pub mod Printed
