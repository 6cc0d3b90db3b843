pub mod Answer
pub mod Failure
pub mod Meaning
pub mod Render
pub mod Verdict
-- internal: no contract of a function that users call reaches these
pub mod Inner
