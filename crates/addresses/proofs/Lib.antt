pub mod Links
pub mod Climbs
pub mod Laws
