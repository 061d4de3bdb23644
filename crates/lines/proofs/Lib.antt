pub mod Laws
pub mod Digits
pub mod FrameLines
pub mod ExtendedLines
pub mod BaseLines
pub mod Numbers
pub mod EntryLines
