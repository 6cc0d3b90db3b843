pub mod Buffers
pub mod Digits
pub mod Lengths
