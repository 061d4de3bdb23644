pub mod Laws
pub mod Laying
pub mod Calls
pub mod Reading
pub mod Most
