-- public
pub mod Record
pub mod Answer
-- internal: no contract of a function that users call reaches these
pub mod Inner
