pub mod Classes
pub mod Turns
