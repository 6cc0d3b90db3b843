-- to be read first
pub mod Claims
-- laws of the code
pub mod Lines
pub mod Lengths
pub mod Ways
