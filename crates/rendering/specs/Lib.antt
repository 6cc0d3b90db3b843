pub mod Meaning
pub mod Write
