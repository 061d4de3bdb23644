pub mod Offered
pub mod Laid
