pub mod Turns
pub mod Places
pub mod Testing
pub mod Holding
pub mod Claims
