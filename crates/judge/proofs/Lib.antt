pub mod Stages
pub mod Rules
pub mod Ways
pub mod Accepted
pub mod Verdict
pub mod Laws
