pub mod Marks
pub mod Below
