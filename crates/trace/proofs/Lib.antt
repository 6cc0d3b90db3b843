pub mod Faults
pub mod Counting
pub mod Places
