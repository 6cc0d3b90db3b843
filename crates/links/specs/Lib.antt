-- public
-- of single functions, and what the pass has done half way
-- internal: no contract of a function that users call reaches these
pub mod Inner
