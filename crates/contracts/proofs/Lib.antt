pub mod Forms
pub mod Determined
pub mod Calls
pub mod Adding
pub mod Rooms
pub mod FromC
pub mod TwoRooms
