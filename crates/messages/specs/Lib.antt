pub mod Messages
pub mod Meaning
-- internal: no contract of a function that users call reaches these
pub mod Inner
