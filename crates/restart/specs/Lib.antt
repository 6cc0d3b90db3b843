pub mod Restart
-- internal: no contract of a function that users call reaches these
pub mod Inner
