pub mod Answers
pub mod Recover
-- internal: no contract of a function that users call reaches these
pub mod Inner
