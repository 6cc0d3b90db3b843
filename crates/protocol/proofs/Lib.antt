pub mod Parts
pub mod Claims
pub mod Words
pub mod Passes
