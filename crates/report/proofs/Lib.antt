pub mod Answers
pub mod Found
pub mod Lengths
pub mod Lines
pub mod Messages
pub mod Ways
