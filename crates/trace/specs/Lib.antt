pub mod Trace
pub mod Fit
pub mod Table
pub mod Kind
-- internal: no contract of a function that users call reaches these
pub mod Inner
