pub mod Giving
pub mod Putting
pub mod Reading
