pub mod Held
pub mod Tested
