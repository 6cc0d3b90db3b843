pub mod Bytes
pub mod Number
pub mod Key
-- internal: no contract of a function that users call reaches these
pub mod Inner
